-- Values in memory, one after the other, as a walk meets them.
use Rattle.std.proofs.Common.{◌≡◌, ℕ, suc, ◌+◌, ◌<◌, ◌≤◌, List, ◌∷◌, length, drop, get_or, sym, ap, ◌∙◌, subst, add-one, drop-cons}
use Rattle.std.proofs.lemmas.List.{drop_all}
use Rattle.cbor_model.specs.InMemory.{IsInMemory, AreInMemory, ArePairsInMemory}
use Rattle.cbor_value.specs.declared.Value.{Value}
use Rattle.cbor_value.specs.View.{view, views, pair_views}

cons_at : {A : Type 0} → (xs : List A) (i : ℕ) (x : A) → i < length xs → x ≡ get_or xs i x → drop i xs ≡ x ∷ drop (i + 1) xs
cons_at xs i x lt is = rw add-one (drop-cons xs i x lt ∙ ap (λ y. y ∷ drop (suc i) xs) (sym is))

pub item_before : (vs : List Value) (i : ℕ) (v : Value) → i < length vs → v ≡ get_or vs i v → IsInMemory (view v) → AreInMemory (views (drop (i + 1) vs)) → AreInMemory (views (drop i vs))
item_before vs i v lt is here after = subst (λ (xs : List Value). AreInMemory (views xs)) (sym (cons_at vs i v lt is)) (here, after)

pub no_items : (vs : List Value) (i : ℕ) → length vs ≤ i → AreInMemory (views (drop i vs))
no_items vs i past = subst (λ (xs : List Value). AreInMemory (views xs)) (sym (drop_all i vs past)) tt

pub pair_before : (ps : List (Value × Value)) (i : ℕ) (p : Value × Value) → i < length ps → p ≡ get_or ps i p → IsInMemory (view p.0) → IsInMemory (view p.1)
    → ArePairsInMemory (pair_views (drop (i + 1) ps)) → ArePairsInMemory (pair_views (drop i ps))
pair_before ps i p lt is key value after = subst (λ (xs : List (Value × Value)). ArePairsInMemory (pair_views xs)) (sym (cons_at ps i p lt is)) (key, value, after)

pub none_left : (ps : List (Value × Value)) (i : ℕ) → length ps ≤ i → ArePairsInMemory (pair_views (drop i ps))
none_left ps i past = subst (λ (xs : List (Value × Value)). ArePairsInMemory (pair_views xs)) (sym (drop_all i ps past)) tt
