-- What a stable sort by the keys, and leaving out repeated keys, keep of pairs: the value found
-- first for each key.
use Rattle.std.proofs.Common.{◌≡◌, ◌⊎◌, inl, inr, Bool, true, false, cond, not, ◌&&◌, nat_eq, ℕ}
use Rattle.std.proofs.Common.{zero, suc, ◌+◌, ◌<◌, ◌↔◌, List, [], ◌∷◌, ◌++◌, length, get_or}
use Rattle.std.proofs.Common.{reverse, Option, Some, None, Ordering, Less, Equal, Greater, refl}
use Rattle.std.proofs.Common.{sym, ap, subst, ◌∙◌, true≢false, add-one, arith}
use Rattle.std.specs.Cmp.{IsTotalOrder, on_total, Equal-is}
use Rattle.std.specs.Cmp.Lexicographic.{pointwise, nat_list_cmp_total, texts_ties}
use Rattle.std.specs.Ordering.{is_lt, is_eq, eq_by_cmp, ordering_reverse}
use Rattle.std.specs.List.{All, AllAdjacentBelow, IsAllAdjacentAnswer, filter, dedup, dedup_from}
use Rattle.std.proofs.lemmas.List.{reverse-append}
use Rattle.std.proofs.lemmas.List.Elements.{All-head, All-tail}
use Rattle.std.specs.List.Sorted.{IsSorted, IsStable, IsStrictlySortedBy, ties}
use Rattle.std.specs.FinMap.{find}
use Rattle.std.proofs.lemmas.List.Kept.{IsStrictlySortedBy-dedup}
use Rattle.cbor_model.specs.Plain.{Val, Pairs, no_pairs}
use Rattle.cbor_model.specs.Order.{flat}
use Rattle.cbor_model.specs.Canonical.{KeysAscend, ArePairsOrdered}
use Rattle.cbor_model.specs.Value.{put}
use Rattle.cbor_model.specs.FiniteMap.{entries, put_all}
use Rattle.cbor_model.specs.Order.{val_cmp}
use Rattle.cbor_model.proofs.facts.Order.{exact_vals}
use Rattle.cbor_model.proofs.facts.Maps.{IsOrdered-put, find-put_all, same_pairs}
use Rattle.cbor_model.proofs.facts.Maps.{KeysAscend-put_all}
use Rattle.cbor_value.specs.declared.Value.{Value}
use Rattle.cbor_value.specs.View.{view, pair_views, flat_of, IsPairOrdered}

abbrev pub Pair : Type 0
Pair = Value × Value

-- the order of the keys
abbrev pub key_order : Pair → Pair → Ordering
key_order p q = val_cmp (view p.0) (view q.0)

abbrev pub key_lt : Pair → Pair → Bool
key_lt p q = is_lt (key_order p q)

-- whether the keys are equal, as `==` says
abbrev pub key_eq : Pair → Pair → Bool
key_eq p q = pointwise nat_eq (flat_of p.0) (flat_of q.0)

-- the value that is found first for a key
abbrev pub first : Val → List Pair → Option Val
first k ps = find val_cmp k (entries (pair_views ps))

-- ---- a stable sort

-- the key is one of a pair, or there is none to be found
key_of : (k : Val) (ps : List Pair) → ((p : Pair) × (k ≡ view p.0)) ⊎ (first k ps ≡ None)
key_of k [] = inr refl
key_of k (p ∷ ps) =
    elim (eq_by_cmp val_cmp k (view p.0)) as
    (λ b. eq_by_cmp val_cmp k (view p.0) ≡ b → ((q : Pair) × (k ≡ view q.0))
    ⊎ (cond b (Some (view p.1)) (first k ps) ≡ None)) [
      | true ↦ λ tied. inl (p, exact_vals k (view p.0) ((Equal-is (val_cmp k (view p.0))).0 tied))
      | false ↦ λ other. key_of k ps
    ] refl

tie : (o : Ordering) → not (is_lt o) && not (is_lt (ordering_reverse o)) ≡ is_eq o
tie Less = refl
tie Equal = refl
tie Greater = refl

ties_by_key : (p q : Pair) → ties key_lt p q ≡ eq_by_cmp val_cmp (view p.0) (view q.0)
ties_by_key p q = ap (λ (o : Ordering). not (is_lt (key_order p q)) && not (is_lt o))
    (nat_list_cmp_total.antisymm (flat (view q.0)) (flat (view p.0))) ∙ tie (key_order p q)

-- only the pairs that tie with it matter
first-filter : (p : Pair) (ps : List Pair)
    → first (view p.0) (filter (ties key_lt p) ps) ≡ first (view p.0) ps
first-filter p [] = refl
first-filter p (q ∷ ps) =
    let same = ties key_lt p in
    let rest = first-filter p ps in
    ap (λ (b : Bool). first (view p.0) (cond b (q ∷ filter same ps) (filter same ps)))
    (ties_by_key p q)
    ∙ elim (eq_by_cmp val_cmp (view p.0) (view q.0)) as
    (λ b. eq_by_cmp val_cmp (view p.0) (view q.0) ≡ b
    → first (view p.0) (cond b (q ∷ filter same ps) (filter same ps)) ≡ cond b (Some (view q.1))
    (first (view p.0) ps)) [
      | true ↦ λ tied. ap (λ (b : Bool). cond b (Some (view q.1))
          (first (view p.0) (filter same ps))) tied
      | false ↦ λ other. rest
    ] refl

pub first-stable : (k : Val) (ps qs : List Pair) → IsStable key_order ps qs
    → first k qs ≡ first k ps
first-stable k ps qs stable = by (key_of k ps) (key_of k qs)
  where
    at : (p : Pair) → k ≡ view p.0 → first k qs ≡ first k ps
    at p is =
        subst (λ (x : Val). first x qs ≡ first x ps) (sym is)
        (sym (first-filter p qs) ∙ ap (first (view p.0)) (stable p) ∙ first-filter p ps)

    by : ((p : Pair) × (k ≡ view p.0)) ⊎ (first k ps ≡ None) → ((p : Pair) × (k ≡ view p.0))
        ⊎ (first k qs ≡ None) → first k qs ≡ first k ps
    by (inl p) other = at p.0 p.1
    by (inr none) (inl q) = at q.0 q.1
    by (inr none) (inr also_none) = also_none ∙ sym none

-- ---- leaving out repeated keys

shadowed : (b : Bool) (x y z : Option Val) → cond b x z ≡ cond b x (cond b y z)
shadowed true x y z = refl
shadowed false x y z = refl

key_eq-is : (p q : Pair) → key_eq p q ≡ eq_by_cmp key_order p q
unfolding flat_of
key_eq-is p q = texts_ties (flat (view p.0)) (flat (view q.0))

key_eq-same : (p q : Pair) → key_eq p q ≡ true → view p.0 ≡ view q.0
key_eq-same p q same =
    exact_vals (view p.0) (view q.0) ((Equal-is (key_order p q)).0 (sym (key_eq-is p q) ∙ same))

first-dedup_from : (k : Val) (p : Pair) (ps : List Pair)
    → first k (dedup_from key_eq p ps) ≡ first k (p ∷ ps)
first-dedup_from k p [] = refl
first-dedup_from k p (q ∷ ps) =
    elim (key_eq q p) as
    (λ b. key_eq q p ≡ b
    → first k (cond b (dedup_from key_eq p ps) (p ∷ dedup_from key_eq q ps)) ≡ first k
    (p ∷ q ∷ ps)) [
      | true ↦ λ same. first-dedup_from k p ps
          ∙ shadowed (eq_by_cmp val_cmp k (view p.0)) (Some (view p.1)) (Some (view q.1))
          (first k ps)
          ∙ ap (λ (x : Val). cond (eq_by_cmp val_cmp k (view p.0)) (Some (view p.1))
          (cond (eq_by_cmp val_cmp k x) (Some (view q.1)) (first k ps)))
          (sym (key_eq-same q p same))
      | false ↦ λ other. ap (cond (eq_by_cmp val_cmp k (view p.0)) (Some (view p.1)))
          (first-dedup_from k q ps)
    ] refl

pub first-dedup : (k : Val) (ps : List Pair) → first k (dedup key_eq ps) ≡ first k ps
first-dedup k [] = refl
first-dedup k (p ∷ ps) = first-dedup_from k p ps

-- ---- what is left ascends

KeysAscend-strictly : (ps : List Pair) → IsStrictlySortedBy key_order ps
    → KeysAscend (pair_views ps)
unfolding IsStrictlySortedBy
KeysAscend-strictly [] up = tt
KeysAscend-strictly (p ∷ []) up = (tt, tt)
KeysAscend-strictly (p ∷ q ∷ ps) up = (up.0.0, KeysAscend-strictly (q ∷ ps) up.1)

pub key_order-total : IsTotalOrder key_order
key_order-total = on_total (λ (p : Pair). flat (view p.0)) nat_list_cmp_total

pub KeysAscend-dedup : (ps : List Pair) → IsSorted key_order ps
    → KeysAscend (pair_views (dedup key_eq ps))
KeysAscend-dedup ps sorted =
    KeysAscend-strictly _ (IsStrictlySortedBy-dedup key_order-total key_eq-is ps sorted)

-- ---- altogether

entries-append : (ps qs : List Pair)
    → entries (pair_views (ps ++ qs)) ≡ entries (pair_views ps) ++ entries (pair_views qs)
entries-append [] qs = refl
entries-append (p ∷ ps) qs =
    ap (λ (es : List (Val × Val)). (view p.0, view p.1) ∷ es) (entries-append ps qs)

entries-reverse : (ps : List Pair)
    → entries (pair_views (reverse ps)) ≡ reverse (entries (pair_views ps))
entries-reverse [] = refl
entries-reverse (p ∷ ps) =
    let e : Val × Val = (view p.0, view p.1) in
    ap (λ (qs : List Pair). entries (pair_views qs)) (reverse-append (p ∷ []) ps)
    ∙ entries-append (reverse ps) (p ∷ [])
    ∙ ap (λ (es : List (Val × Val)). es ++ e ∷ []) (entries-reverse ps)
    ∙ sym (reverse-append (e ∷ []) (entries (pair_views ps)))

pub put_all-sorted : (ps qs : List Pair) → IsSorted key_order qs
    → IsStable key_order (reverse ps) qs
    → pair_views (dedup key_eq qs) ≡ put_all (pair_views ps) no_pairs
put_all-sorted ps qs sorted stable =
    same_pairs _ _ (KeysAscend-dedup qs sorted) (KeysAscend-put_all (pair_views ps) no_pairs tt)
    (λ k.
    first-dedup k qs
    ∙ first-stable k (reverse ps) qs stable
    ∙ ap (find val_cmp k) (entries-reverse ps)
    ∙ sym (find-put_all k (pair_views ps)))

-- one pair more at the end
pub put_all-push : (ps : List Pair) (k v : Value) (before : Pairs)
    → put_all (pair_views (ps ++ (k, v) ∷ [])) before ≡ put (view k) (view v)
    (put_all (pair_views ps) before)
put_all-push [] k v before = refl
put_all-push (p ∷ ps) k v before = put_all-push ps k v (put (view p.0) (view p.1) before)

pub IsOrdered-put_all : (ps : List Pair) (before : Pairs) → All IsPairOrdered ps
    → ArePairsOrdered before → ArePairsOrdered (put_all (pair_views ps) before)
IsOrdered-put_all [] before ordered so_far = so_far
IsOrdered-put_all (p ∷ ps) before ordered so_far =
    let one = All-head IsPairOrdered p ps ordered in
    IsOrdered-put_all ps (put (view p.0) (view p.1) before) (All-tail IsPairOrdered p ps ordered)
    (IsOrdered-put (view p.0) (view p.1) before one.0 one.1 so_far)

-- ---- neighbours in order

Less-from_true : (o : Ordering) → true ≡ is_lt o → o ≡ Less
Less-from_true Less is = refl
Less-from_true Equal is = absurd (true≢false is)
Less-from_true Greater is = absurd (true≢false is)

KeysAscend-adjacent : (ps : List Pair) → AllAdjacentBelow (λ p q. true ≡ key_lt p q) ps (length ps)
    → KeysAscend (pair_views ps)
KeysAscend-adjacent [] next = tt
KeysAscend-adjacent (p ∷ []) next = (tt, tt)
KeysAscend-adjacent (p ∷ q ∷ ps) next = (
  Less-from_true _ (next 0 p (omega arith)),
  KeysAscend-adjacent (q ∷ ps)
      (λ k d lt. rw add-one (rw add-one at (next (suc k) d (omega arith)))),
)

adjacent-Less : (ps : List Pair) (k : ℕ) (d : Pair) → k + 1 < length ps → KeysAscend (pair_views ps)
    → key_order (get_or ps k d) (get_or ps (k + 1) d) ≡ Less
adjacent-Less [] k d lt ascend = absurd (omega arith)
adjacent-Less (p ∷ []) k d lt ascend = absurd (omega arith)
adjacent-Less (p ∷ q ∷ ps) zero d lt ascend = ascend.0
adjacent-Less (p ∷ q ∷ ps) (suc k) d lt ascend =
    rw add-one (rw add-one at (adjacent-Less (q ∷ ps) k d (omega arith) ascend.1))

-- what `is_sorted_by` answers
pub ascends-is : (ps : List Pair) (b : Bool) → IsAllAdjacentAnswer (λ p q r. r ≡ key_lt p q) ps b
    → (b ≡ true) ↔ KeysAscend (pair_views ps)
ascends-is ps true next = (λ is. KeysAscend-adjacent ps next, λ ascend. refl)
ascends-is [] false (k, lt, other) = absurd (omega arith)
ascends-is (p ∷ ps) false (k, lt, other) = (
  λ is. absurd (true≢false (sym is)),
  λ ascend. other p
      ∙ ap is_lt (adjacent-Less (p ∷ ps) k p lt ascend),
)
