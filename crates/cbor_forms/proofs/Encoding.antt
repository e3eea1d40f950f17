-- Values encoded one after the other, shorter keys first.
use Rattle.std.proofs.Common.{◌≡◌, ◌∙◌, ℕ, zero, suc, ◌+◌, ◌<◌, ◌≤◌, List, [], ◌∷◌, ◌++◌, length, map}
use Rattle.std.proofs.Common.{take, drop, get_or, refl, sym, ap, subst, arith}
use Rattle.std.proofs.Common.{append_assoc, ◌⊎◌, inl, inr}
use Rattle.std.proofs.lemmas.List.{take_all, drop_all, append-nil}
use Rattle.std.specs.Prelude.{Result, Ok, Err, IfErr}
use Rattle.cbor_model.specs.Head.{short}
use Rattle.cbor_model.specs.Plain.{Val, bytes, array, tag, map as of_pairs}
use Rattle.cbor_model.specs.Plain.{Pairs, no_pairs, pair, pair_count}
use Rattle.cbor_model.specs.FiniteMap.{put_all}
use Rattle.cbor_model.specs.Canonical.{IsStorable, AreStorable, ArePairsStorable}
use Rattle.cbor_model.specs.Document.{document_of, IsStorableDocument}
use Rattle.cbor_model.proofs.facts.Documents.{storable_document}
use Rattle.cbor_io.specs.declared.error.Error.{Error}
use Rattle.cbor_io.specs.Error.{IsOutOfMemory}
use Rattle.cbor_value.specs.declared.Value.{Value}
use Rattle.cbor_value.specs.View.{view, views, pairs_of, pair_views}
use Rattle.cbor_value.proofs.facts.Views.{count_views}
use Rattle.cbor_ser.specs.Written.{SaysUnstorable}
use Rattle.cbor_forms.specs.LengthFirst.{length_first, all_length_first, encoded, content, joined}
use Rattle.cbor_forms.proofs.Shortening.{both_views, cons_at}

-- ---- items

abbrev pub both_encoded : Value × Value → Val × Val
both_encoded p = (bytes (length_first (view p.0)), bytes (length_first (view p.1)))

pub next_item : (vs : List Value) (i : ℕ) (v : Value) (start out more : List ℕ) → i < length vs
    → v ≡ get_or vs i v → more ≡ out ++ length_first (view v)
    → out ++ all_length_first (views (drop i vs)) ≡ start
    → more ++ all_length_first (views (drop (i + 1) vs)) ≡ start
unfolding length_first
next_item vs i v start out more lt is wrote so_far =
    let rest = all_length_first (views (drop (i + 1) vs)) in
    ap (λ (z : List ℕ). z ++ rest) wrote
    ∙ append_assoc out (length_first (view v)) rest
    ∙ ap (λ (xs : List Value). out ++ all_length_first (views xs)) (sym (cons_at vs i v lt is))
    ∙ so_far

pub no_more_items : (vs : List Value) (i : ℕ) (start out : List ℕ) → length vs ≤ i
    → out ++ all_length_first (views (drop i vs)) ≡ start → out ≡ start
unfolding length_first
no_more_items vs i start out past so_far =
    sym (append-nil out)
    ∙ ap (λ (xs : List Value). out ++ all_length_first (views xs)) (sym (drop_all i vs past))
    ∙ so_far

-- ---- pairs

pub next_pair : (ps : List (Value × Value)) (i : ℕ) (p : Value × Value) (start out half more : List ℕ)
    → i < length ps → p ≡ get_or ps i p → half ≡ out ++ content (view p.0)
    → more ≡ half ++ content (view p.1) → out ++ joined (pair_views (drop i ps)) ≡ start
    → more ++ joined (pair_views (drop (i + 1) ps)) ≡ start
next_pair ps i p start out half more lt is key value so_far =
    let rest = joined (pair_views (drop (i + 1) ps)) in
    let k = content (view p.0) in
    let v = content (view p.1) in
    ap (λ (z : List ℕ). z ++ rest) (value ∙ ap (λ (z : List ℕ). z ++ v) key)
    ∙ append_assoc (out ++ k) v rest
    ∙ append_assoc out k (v ++ rest)
    ∙ ap (λ (xs : List (Value × Value)). out ++ joined (pair_views xs)) (sym (cons_at ps i p lt is))
    ∙ so_far

pub no_more_pairs : (ps : List (Value × Value)) (i : ℕ) (start out : List ℕ) → length ps ≤ i
    → out ++ joined (pair_views (drop i ps)) ≡ start → out ≡ start
no_more_pairs ps i start out past so_far =
    sym (append-nil out)
    ∙ ap (λ (xs : List (Value × Value)). out ++ joined (pair_views xs)) (sym (drop_all i ps past))
    ∙ so_far

pairs_listed : (xs : List (Value × Value))
    → pairs_of (map both_encoded xs) ≡ encoded (pair_views xs)
unfolding length_first
pairs_listed [] = refl
pairs_listed (x ∷ xs) =
    ap (pair (bytes (length_first (view x.0))) (bytes (length_first (view x.1)))) (pairs_listed xs)

pub all_encoded : (ys xs : List (Value × Value)) (i : ℕ) → length xs ≤ i
    → map both_views ys ≡ map both_encoded (take i xs) → pair_views ys ≡ encoded (pair_views xs)
all_encoded ys xs i past same =
    ap pairs_of (same ∙ ap (map both_encoded) (take_all i xs past)) ∙ pairs_listed xs

-- ---- storable

pub storable_at : (vs : List Value) (i : ℕ) (v : Value) → i < length vs → v ≡ get_or vs i v
    → AreStorable (views vs) → IsStorable (view v)
storable_at [] i v lt is all = absurd (omega arith)
storable_at (w ∷ ws) zero v lt is all =
    subst (λ (x : Value). IsStorable (view x)) (sym is) all.0
storable_at (w ∷ ws) (suc i) v lt is all = storable_at ws i v (omega arith) is all.1

pub pair_storable_at : (ps : List (Value × Value)) (i : ℕ) (p : Value × Value) → i < length ps
    → p ≡ get_or ps i p → ArePairsStorable (pair_views ps)
    → IsStorable (view p.0) × IsStorable (view p.1)
pair_storable_at [] i p lt is all = absurd (omega arith)
pair_storable_at (q ∷ qs) zero p lt is all =
    subst (λ (x : Value × Value). IsStorable (view x.0) × IsStorable (view x.1)) (sym is)
    (all.0, all.1)
pair_storable_at (q ∷ qs) (suc i) p lt is all = pair_storable_at qs i p (omega arith) is all.2

-- what is storable is refused for lack of memory alone
memory_of : (v : Val) (e : Error) → IsStorable v
    → IsOutOfMemory e ⊎ ((IsStorableDocument (document_of v) → ⊥) × SaysUnstorable e)
    → IsOutOfMemory e
memory_of v e is (inl memory) = memory
memory_of v e is (inr unstorable) = absurd (unstorable.0 (storable_document v is))

pub memory_alone : {A : Type 0} (r : Result A Error) (v : Val) → IsStorable v
    → IfErr r (λ e. IsOutOfMemory e
    ⊎ ((IsStorableDocument (document_of v) → ⊥) × SaysUnstorable e))
    → IfErr r IsOutOfMemory
memory_alone (Ok x) v is h = tt
memory_alone (Err e) v is h = memory_of v e is h

-- ---- heads with what follows

pub then_written : (old mid new a b whole : List ℕ) → mid ≡ old ++ a → a ++ b ≡ whole
    → new ≡ mid ++ b → new ≡ old ++ whole
then_written old mid new a b whole first is second =
    second
    ∙ ap (λ (z : List ℕ). z ++ b) first
    ∙ append_assoc old a b
    ∙ ap (λ (z : List ℕ). old ++ z) is

pub array_whole : (vs : List Value)
    → short 4 (length vs) ++ all_length_first (views vs) ≡ length_first (array (views vs))
unfolding length_first
array_whole vs =
    ap (λ (n : ℕ). short 4 n ++ all_length_first (views vs)) (sym (count_views vs))

pub map_whole : (ps qs : Pairs) (n : ℕ) → n ≡ pair_count ps → qs ≡ put_all (encoded ps) no_pairs
    → short 5 n ++ joined qs ≡ length_first (of_pairs ps)
unfolding length_first
map_whole ps qs n few sorted =
    ap (λ (m : ℕ). short 5 m ++ joined qs) few
    ∙ ap (λ (rs : Pairs). short 5 (pair_count ps) ++ joined rs) sorted

pub tag_whole : (n : ℕ) (v : Val) → short 6 n ++ length_first v ≡ length_first (tag n v)
unfolding length_first
tag_whole n v = refl
