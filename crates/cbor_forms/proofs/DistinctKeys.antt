-- Pairs put in one after the other: as many stay as there are keys.
use Rattle.std.proofs.Common.{◌≡◌, ◌∙◌, ◌⊎◌, inl, inr, sym, ap, subst, refl, arith}
use Rattle.std.proofs.Common.{Ordering, Less, Equal, Greater}
use Rattle.std.proofs.lemmas.Bool.{true≢false}
use Rattle.std.specs.Ordering.{is_lt}
use Rattle.std.specs.Prelude.{suc, ◌+◌, ◌≤◌, List, [], ◌∷◌, length}
use Rattle.cbor_model.specs.Plain.{Val, Pairs, no_pairs, pair, pair_count}
use Rattle.cbor_model.specs.Order.{val_cmp}
use Rattle.cbor_model.specs.Value.{by_order, put}
use Rattle.cbor_model.specs.FiniteMap.{put_all}
use Rattle.cbor_model.specs.Canonical.{IsBelow, KeysAscend}
use Rattle.cbor_model.proofs.facts.Order.{same_key, Greater-from_Less, Less-from_Greater}
use Rattle.cbor_model.proofs.facts.Maps.{IsBelow-trans, KeysAscend-put}
use Rattle.cbor_value.specs.declared.Value.{Value}
use Rattle.cbor_value.specs.View.{pair_views}
use Rattle.cbor_forms.specs.Shortened.{IsKeyOf, AreDistinct}

-- a split on the order, which each branch knows
pub by_order-cases : {A : Type 0} (P : A → Type 0) (o : Ordering) (a b c : A) → (o ≡ Less → P a)
    → (o ≡ Equal → P b) → (o ≡ Greater → P c) → P (by_order o a b c)
by_order-cases P Less a b c less same more = less refl
by_order-cases P Equal a b c less same more = same refl
by_order-cases P Greater a b c less same more = more refl

less_apart : (k l : Val) → val_cmp k l ≡ Less → k ≡ l → ⊥
less_apart k l less is =
    let itself : val_cmp k k ≡ Less = ap (val_cmp k) is ∙ less in
    true≢false (ap is_lt (sym itself ∙ Greater-from_Less k k itself))

-- a key below ascending pairs is none of theirs
below_apart : (k : Val) (ps : Pairs) → IsBelow k ps → KeysAscend ps → IsKeyOf k ps → ⊥
below_apart k no_pairs below ascend key = key
below_apart k (pair l w ps) below ascend (inl is) = less_apart k l below is
below_apart k (pair l w ps) below ascend (inr later) =
    below_apart k ps (IsBelow-trans k l ps below ascend.0) ascend.1 later

-- ---- one pair

key_put : (k v : Val) (ps : Pairs) → IsKeyOf k (put k v ps)
key_put k v no_pairs = inl refl
key_put k v (pair l w ps) =
    by_order-cases (IsKeyOf k) (val_cmp k l) _ _ _ (λ less. inl refl) (λ same. inl refl)
    (λ more. inr (key_put k v ps))

still_key : (q k v : Val) (ps : Pairs) → IsKeyOf q ps → IsKeyOf q (put k v ps)
still_key q k v no_pairs key = absurd key
still_key q k v (pair l w ps) (inl is) =
    by_order-cases (IsKeyOf q) (val_cmp k l) _ _ _ (λ less. inr (inl is))
    (λ same. inl (is ∙ sym (same_key k l same))) (λ more. inl is)
still_key q k v (pair l w ps) (inr later) =
    by_order-cases (IsKeyOf q) (val_cmp k l) _ _ _ (λ less. inr (inr later))
    (λ same. inr later) (λ more. inr (still_key q k v ps later))

key_from_put : (q k v : Val) (ps : Pairs) → IsKeyOf q (put k v ps) → (q ≡ k) ⊎ IsKeyOf q ps
key_from_put q k v no_pairs (inl is) = inl is
key_from_put q k v no_pairs (inr none) = absurd none
key_from_put q k v (pair l w ps) key =
    by_order-cases (λ (qs : Pairs). IsKeyOf q qs → (q ≡ k) ⊎ IsKeyOf q (pair l w ps))
    (val_cmp k l) _ _ _
    (λ less h. h)
    (λ same h. elim h [ inl is ↦ inl is | inr later ↦ inr (inr later) ])
    (λ more h. elim h [
      | inl is ↦ inr (inl is)
      | inr later ↦ elim (key_from_put q k v ps later) [
        | inl is ↦ inl is
        | inr before ↦ inr (inr before)
      ]
    ]) key

count_new : (k v : Val) (ps : Pairs) → (IsKeyOf k ps → ⊥)
    → pair_count (put k v ps) ≡ suc (pair_count ps)
count_new k v no_pairs new = refl
count_new k v (pair l w ps) new =
    by_order-cases (λ (qs : Pairs). pair_count qs ≡ suc (suc (pair_count ps))) (val_cmp k l) _ _ _
    (λ less. refl)
    (λ same. absurd (new (inl (same_key k l same))))
    (λ more. ap suc (count_new k v ps (λ later. new (inr later))))

count_old : (k v : Val) (ps : Pairs) → KeysAscend ps → IsKeyOf k ps
    → pair_count (put k v ps) ≡ pair_count ps
count_old k v no_pairs ascend key = absurd key
count_old k v (pair l w ps) ascend (inl is) =
    by_order-cases (λ (qs : Pairs). pair_count qs ≡ suc (pair_count ps)) (val_cmp k l) _ _ _
    (λ less. absurd (less_apart k l less is))
    (λ same. refl)
    (λ more. absurd (less_apart l k (Less-from_Greater k l more) (sym is)))
count_old k v (pair l w ps) ascend (inr later) =
    by_order-cases (λ (qs : Pairs). pair_count qs ≡ suc (pair_count ps)) (val_cmp k l) _ _ _
    (λ less. absurd (below_apart k (pair l w ps) less ascend (inr later)))
    (λ same. refl)
    (λ more. ap suc (count_old k v ps ascend.1 later))

count_put-le : (k v : Val) (ps : Pairs) → pair_count (put k v ps) ≤ suc (pair_count ps)
count_put-le k v no_pairs = omega arith
count_put-le k v (pair l w ps) =
    let rest = count_put-le k v ps in
    by_order-cases (λ (qs : Pairs). pair_count qs ≤ suc (suc (pair_count ps))) (val_cmp k l) _ _ _
    (λ less. omega arith) (λ same. omega arith) (λ more. omega (arith, rest))

-- ---- many

abbrev AreApart : Pairs → Pairs → Type 0
AreApart ps qs = (q : Val) → IsKeyOf q ps → IsKeyOf q qs → ⊥

count_put_all-le : (ps before : Pairs)
    → pair_count (put_all ps before) ≤ pair_count ps + pair_count before
count_put_all-le no_pairs before = omega arith
count_put_all-le (pair k v ps) before =
    let rest = count_put_all-le ps (put k v before) in
    let one = count_put-le k v before in
    omega (arith, rest, one)

count_distinct : (ps before : Pairs) → AreDistinct ps → AreApart ps before
    → pair_count (put_all ps before) ≡ pair_count ps + pair_count before
count_distinct no_pairs before distinct apart = omega arith
count_distinct (pair k v ps) before distinct apart =
    let rest = count_distinct ps (put k v before) distinct.1
    (λ q key old. elim (key_from_put q k v before old) [
      | inl is ↦ distinct.0 (subst (λ (x : Val). IsKeyOf x ps) is key)
      | inr earlier ↦ apart q (inr key) earlier
    ]) in
    let one = count_new k v before (λ earlier. apart k (inl refl) earlier) in
    omega (arith, rest, one)

distinct_from : (ps before : Pairs) → KeysAscend before
    → pair_count (put_all ps before) ≡ pair_count ps + pair_count before
    → AreDistinct ps × AreApart ps before
distinct_from no_pairs before ascend all = (tt, λ q key old. key)
distinct_from (pair k v ps) before ascend all =
    let most = count_put_all-le ps (put k v before) in
    let one = count_put-le k v before in
    let h = distinct_from ps (put k v before) (KeysAscend-put k v before ascend)
    (omega (arith, most, one, all)) in (
      (λ key. h.1 k key (key_put k v before), h.0),
      λ q key old. elim key [
        | inl is ↦
            let same = count_old k v before ascend (subst (λ (x : Val). IsKeyOf x before) is old) in
            omega (arith, most, all, same)
        | inr later ↦ h.1 q later (still_key q k v before old)
      ],
    )

-- as many pairs stay as there are, where the keys are distinct, and only there
pub all_stay : (ps : Pairs) → AreDistinct ps → pair_count (put_all ps no_pairs) ≡ pair_count ps
all_stay ps distinct =
    let all = count_distinct ps no_pairs distinct (λ q key none. none) in omega (arith, all)

pub are_distinct : (ps : Pairs) → pair_count (put_all ps no_pairs) ≡ pair_count ps
    → AreDistinct ps
are_distinct ps all = (distinct_from ps no_pairs tt (omega (arith, all))).0

pub count_pair_views : (ps : List (Value × Value)) → pair_count (pair_views ps) ≡ length ps
count_pair_views [] = refl
count_pair_views (p ∷ ps) = ap suc (count_pair_views ps)

pub ascending_distinct : (ps : Pairs) → KeysAscend ps → AreDistinct ps
ascending_distinct no_pairs ascend = tt
ascending_distinct (pair k v ps) ascend =
    (below_apart k ps ascend.0 ascend.1, ascending_distinct ps ascend.1)
