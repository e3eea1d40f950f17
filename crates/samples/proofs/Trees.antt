-- Trees, and the values that they are read from.
use Rattle.std.proofs.Common.{◌≡◌, ◌∙◌, ℕ, zero, suc, ◌+◌, ◌<◌, List, [], ◌∷◌, ◌++◌, map, length, get_or, take, inl, inr, refl, sym, ap, subst, add-one, arith}
use Rattle.std.proofs.Math.Seq.{take-suc}
use Rattle.std.proofs.lemmas.List.{map-append}
use Rattle.std.specs.Prelude.{Vec}
use Rattle.std.specs.Global.{Global}
use Rattle.serde_cbor.specs.Plain.{Val}
use Rattle.serde_cbor.specs.declared.error.Error.{Error}
use Rattle.serde_cbor.specs.View.{view, views, vals_of}
use Rattle.serde_cbor.proofs.facts.Values.{view_array}
use Rattle.cbor_value.specs.declared.Value.{Value, Array}
use Rattle.samples.specs.declared.tree.Tree.{Tree, Node}
use Rattle.samples.specs.Trees.{IsTree, AreTrees, RefusesTree, RefusesTrees}

-- ---- the items of an array

push : (ws : List Val) (w : Val) (ts : List Tree) (t : Tree) → AreTrees (vals_of ws) ts → IsTree w t → AreTrees (vals_of (ws ++ w ∷ [])) (ts ++ t ∷ [])
push [] w [] t before is = (is, tt)
push [] w (u ∷ ts) t before is = absurd before
push (v ∷ ws) w [] t before is = absurd before
push (v ∷ ws) w (u ∷ ts) t before is = (before.0, push ws w ts t before.1 is)

-- one more
pub trees_more : (vs : List Value) (i : ℕ) (v : Value) (ts : List Tree) (t : Tree) → i < length vs → v ≡ get_or vs i v
    → AreTrees (views (take i vs)) ts → IsTree (view v) t → AreTrees (views (take (i + 1) vs)) (ts ++ t ∷ [])
trees_more vs i v ts t lt at before is =
    let more : take (i + 1) vs ≡ take i vs ++ v ∷ [] = rw add-one (take-suc vs i v lt ∙ ap (λ (w : Value). take i vs ++ w ∷ []) (sym at)) in
    let seen : map view (take (i + 1) vs) ≡ map view (take i vs) ++ view v ∷ [] = ap (map view) more ∙ map-append view (take i vs) (v ∷ []) in
    subst (λ (ws : List Val). AreTrees (vals_of ws) (ts ++ t ∷ [])) (sym seen) (push (map view (take i vs)) (view v) ts t before is)

has_tree : (vs : List Value) (i : ℕ) (v : Value) (ts : List Tree) → i < length vs → AreTrees (views vs) ts → (t : Tree) × IsTree (view (get_or vs i v)) t
has_tree [] i v ts lt is = absurd (omega (arith, lt))
has_tree (w ∷ vs) i v [] lt is = absurd is
has_tree (w ∷ vs) zero v (t ∷ ts) lt is = (t, is.0)
has_tree (w ∷ vs) (suc i) v (t ∷ ts) lt is = has_tree vs i v ts (omega (arith, lt)) is.1

-- an item that is refused
pub trees_lack : (vs : List Value) (i : ℕ) (v : Value) (e : Error) → i < length vs → v ≡ get_or vs i v → RefusesTree (view v) e → RefusesTrees (views vs) e
trees_lack vs i v e lt at (inl memory) = inl memory
trees_lack vs i v e lt at (inr none) = inr (λ ts are.
    let one = has_tree vs i v ts lt are in
    none one.0 (subst (λ (w : Value). IsTree (view w) one.0) (sym at) one.1))

-- ---- an array

pub node_is : (vs : Vec Value Global) (ts : Vec Tree Global) → AreTrees (views vs.items) ts.items → IsTree (view (Array vs)) (Node ts)
node_is vs ts are = rw (view_array vs) (ts, refl, are)

pub node_lacks : (vs : Vec Value Global) (e : Error) → RefusesTrees (views vs.items) e → RefusesTree (view (Array vs)) e
node_lacks vs e (inl memory) = inl memory
node_lacks vs e (inr none) = inr (rw (view_array vs) (λ t h. none h.0.items h.2))
