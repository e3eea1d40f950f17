-- The place of a key among pairs, and what an insertion and a removal there give.
use Rattle.std.proofs.Common.{◌≡◌, ℕ, zero, suc, ◌+◌, ◌-◌, ◌/◌, ◌^◌, ◌<◌, ◌≤◌, List, [], ◌∷◌, ◌++◌}
use Rattle.std.proofs.Common.{length, map, take, drop, get_or, set, Some, None, Ordering, Less}
use Rattle.std.proofs.Common.{Equal, Greater, refl, sym, ap, ap₂, subst, ◌∙◌, add-one, arith, rules}
use Rattle.std.proofs.Math.Seq.{take-suc}
use Rattle.std.proofs.lemmas.List.{map-append, take_all}
use Rattle.std.proofs.lemmas.Int.Digits.{number_lt, number_digits_of, all_below_base_digits_of}
use Rattle.std.proofs.lemmas.Int.Digits.{length-digits_of_step, length-digits_of-le}
use Rattle.std.specs.Int.Digits.{digits_of}
use Rattle.std.specs.Global.{Global}
use Rattle.std.specs.Prelude.{Vec}
use Rattle.std.specs.List.{insert, remove, slice_get}
use Rattle.std.specs.Option.{option_map}
use Rattle.std.specs.FinMap as finmap
use Rattle.std.specs.FinMap.{find}
use Rattle.cbor_model.specs.Plain.{Val, Pairs, no_pairs, pair}
use Rattle.cbor_model.specs.Value.{by_order, put}
use Rattle.cbor_model.specs.Canonical.{IsBelow, KeysAscend, IsOrdered, ArePairsOrdered}
use Rattle.cbor_model.specs.FiniteMap.{entries, finite_map, last_pair, without}
use Rattle.cbor_model.specs.Order.{val_cmp}
use Rattle.cbor_model.proofs.facts.Order.{Less-trans, Less-from_Greater, Greater-from_Less}
use Rattle.cbor_model.proofs.facts.Order.{same_key}
use Rattle.cbor_model.proofs.facts.Maps.{IsBelow-trans, get-finite_map, finite_map-put}
use Rattle.cbor_model.proofs.facts.Maps.{finite_map-without, KeysAscend-put, KeysAscend-without}
use Rattle.cbor_model.proofs.facts.Maps.{KeysAscend-from_IsOrdered, IsOrdered-put}
use Rattle.cbor_model.proofs.facts.Maps.{IsOrdered-without, put-below, find-below}
use Rattle.cbor_value.specs.declared.Value.{Value, the_lemmas}
use Rattle.cbor_value.specs.declared.Value.TheViews.{roll-Map}
use Rattle.cbor_value.specs.Search.{StandsAt, BelongsAt, binary_digits}
use Rattle.cbor_value.specs.View.{view, views, vals_of, pairs_of, map_view, pair_views}

pub map_view-roll : (v : Vec (Value × Value) Global)
    → map_view (roll-Map (record { pairs = v })) ≡ pair_views v.items
map_view-roll v = search (rules, the_lemmas)

-- ---- the search

-- the key is above those of the first i pairs
abbrev pub Passed : Val → ℕ → Pairs → Type 0
Passed k zero ps = Unit {0}
Passed k (suc i) no_pairs = ⊥
Passed k (suc i) (pair l w ps) = (val_cmp k l ≡ Greater) × Passed k i ps

order_at : (k : Val) (p q : Value × Value) (o : Ordering) → p ≡ q → o ≡ val_cmp k (view p.0)
    → val_cmp k (view q.0) ≡ o
order_at k p q o is order = ap (λ (r : Value × Value). val_cmp k (view r.0)) (sym is) ∙ sym order

pub Passed-suc : (k : Val) (i : ℕ) (ps : List (Value × Value)) (p : Value × Value) → i < length ps
    → p ≡ get_or ps i p
    → Greater ≡ val_cmp k (view p.0) → Passed k i (pair_views ps) → Passed k (suc i) (pair_views ps)
Passed-suc k i [] p lt is more passed = absurd (omega arith)
Passed-suc k zero (q ∷ ps) p lt is more passed = (order_at k p q Greater is more, tt)
Passed-suc k (suc i) (q ∷ ps) p lt is more passed =
    (passed.0, Passed-suc k i ps p (omega arith) is more passed.1)

pub StandsAt-passed : (k : Val) (i : ℕ) (ps : List (Value × Value)) (p : Value × Value)
    → i < length ps → p ≡ get_or ps i p
    → Equal ≡ val_cmp k (view p.0) → Passed k i (pair_views ps) → StandsAt k i (pair_views ps)
StandsAt-passed k i [] p lt is same passed = absurd (omega arith)
StandsAt-passed k zero (q ∷ ps) p lt is same passed = order_at k p q Equal is same
StandsAt-passed k (suc i) (q ∷ ps) p lt is same passed =
    (passed.0, StandsAt-passed k i ps p (omega arith) is same passed.1)

-- a key below the first of ascending pairs is below each
Less-get_or : (a : Val) (i : ℕ) (ps : List (Value × Value)) (p : Value × Value) → i < length ps
    → p ≡ get_or ps i p → IsBelow a (pair_views ps) → KeysAscend (pair_views ps)
    → val_cmp a (view p.0) ≡ Less
Less-get_or a i [] p lt is below ascend = absurd (omega arith)
Less-get_or a zero (q ∷ ps) p lt is below ascend =
    ap (λ (r : Value × Value). val_cmp a (view r.0)) is ∙ below
Less-get_or a (suc i) (q ∷ ps) p lt is below ascend =
    Less-get_or a i ps p (omega arith) is
    (IsBelow-trans a (view q.0) (pair_views ps) below ascend.0) ascend.1

-- what is below the i-th key is below k
abbrev pub Reaches : Val → Val → Type 0
Reaches k l = (a : Val) → val_cmp a l ≡ Less → val_cmp k a ≡ Greater

pub Reaches-Equal : (k l : Val) → Equal ≡ val_cmp k l → Reaches k l
Reaches-Equal k l same a less =
    Greater-from_Less a k
    (subst (λ (x : Val). val_cmp a x ≡ Less) (sym (same_key k l (sym same))) less)

pub Reaches-Greater : (k l : Val) → Greater ≡ val_cmp k l → Reaches k l
Reaches-Greater k l more a less =
    Greater-from_Less a k (Less-trans a l k less (Less-from_Greater k l (sym more)))

pub Passed-ascending : (k : Val) (i : ℕ) (ps : List (Value × Value)) (p : Value × Value)
    → i < length ps → p ≡ get_or ps i p → Reaches k (view p.0) → KeysAscend (pair_views ps)
    → Passed k i (pair_views ps)
Passed-ascending k i [] p lt is reaches ascend = absurd (omega arith)
Passed-ascending k zero (q ∷ ps) p lt is reaches ascend = tt
Passed-ascending k (suc i) (q ∷ ps) p lt is reaches ascend = (
  reaches (view q.0) (Less-get_or (view q.0) i ps p (omega arith) is ascend.0 ascend.1),
  Passed-ascending k i ps p (omega arith) is reaches ascend.1,
)

pub IsBelow-drop : (k : Val) (i : ℕ) (ps : List (Value × Value)) (p : Value × Value) → i < length ps
    → p ≡ get_or ps i p
    → Less ≡ val_cmp k (view p.0) → IsBelow k (pair_views (drop i ps))
IsBelow-drop k i [] p lt is less = absurd (omega arith)
IsBelow-drop k zero (q ∷ ps) p lt is less = order_at k p q Less is less
IsBelow-drop k (suc i) (q ∷ ps) p lt is less = IsBelow-drop k i ps p (omega arith) is less

pub BelongsAt-between : (k : Val) (i : ℕ) (ps : List (Value × Value)) → Passed k i (pair_views ps)
    → IsBelow k (pair_views (drop i ps)) → BelongsAt k i (pair_views ps)
BelongsAt-between k zero ps passed below = below
BelongsAt-between k (suc i) [] passed below = passed
BelongsAt-between k (suc i) (q ∷ ps) passed below =
    (passed.0, BelongsAt-between k i ps passed.1 below)

-- ---- the number of steps

pub binary_digits-mono : (m n : ℕ) → m ≤ n → binary_digits m ≤ binary_digits n
binary_digits-mono m n le =
    length-digits_of-le 2 (binary_digits n) m (omega arith)
    (omega (
      arith,
      number_lt 2 (digits_of 2 n) (all_below_base_digits_of 2 n (omega arith)),
      number_digits_of 2 n (omega arith),
    ))

-- half of what is left takes a digit less
pub binary_digits-half : (m n : ℕ) → 0 < n → m ≤ n / 2 → binary_digits m + 1 ≤ binary_digits n
binary_digits-half m n some le =
    omega (arith, binary_digits-mono m (n / 2) le, length-digits_of_step 2 n (omega arith) some)

pub binary_digits-fit : (n : ℕ) → n < 2 ^ 64 → binary_digits n ≤ 64
binary_digits-fit n small = length-digits_of-le 2 64 n (omega arith) small

-- ---- one pair further

put_to : (k v l w : Val) (ps : Pairs) (o : Ordering) → val_cmp k l ≡ o
    → put k v (pair l w ps) ≡ by_order o (pair k v (pair l w ps)) (pair k v ps)
    (pair l w (put k v ps))
put_to k v l w ps o is =
    ap (λ (x : Ordering). by_order x (pair k v (pair l w ps)) (pair k v ps)
    (pair l w (put k v ps))) is

without_to : (k l w : Val) (ps : Pairs) (o : Ordering) → val_cmp k l ≡ o
    → without k (pair l w ps) ≡ by_order o (pair l w ps) ps (pair l w (without k ps))
without_to k l w ps o is =
    ap (λ (x : Ordering). by_order x (pair l w ps) ps (pair l w (without k ps))) is

-- ---- the key is there

pub put-StandsAt : (k : Val) (v : Value) (i : ℕ) (ps : List (Value × Value)) (p : Value × Value)
    → p ≡ get_or ps i p → StandsAt k i (pair_views ps)
    → pair_views (set ps i (p.0, v)) ≡ put k (view v) (pair_views ps)
put-StandsAt k v i [] p is stands = absurd stands
put-StandsAt k v zero (q ∷ ps) p is stands =
    ap (λ (x : Val). pair x (view v) (pair_views ps))
    (ap (λ (r : Value × Value). view r.0) is ∙ sym (same_key k (view q.0) stands))
    ∙ sym (put_to k (view v) (view q.0) (view q.1) (pair_views ps) Equal stands)
put-StandsAt k v (suc i) (q ∷ ps) p is stands =
    ap (pair (view q.0) (view q.1)) (put-StandsAt k v i ps p is stands.1)
    ∙ sym (put_to k (view v) (view q.0) (view q.1) (pair_views ps) Greater stands.0)

pub without-StandsAt : (k : Val) (i : ℕ) (ps : List (Value × Value)) → StandsAt k i (pair_views ps)
    → pair_views (remove ps i) ≡ without k (pair_views ps)
without-StandsAt k i [] stands = absurd stands
without-StandsAt k zero (q ∷ ps) stands =
    sym (without_to k (view q.0) (view q.1) (pair_views ps) Equal stands)
without-StandsAt k (suc i) (q ∷ ps) stands =
    ap (pair (view q.0) (view q.1)) (without-StandsAt k i ps stands.1)
    ∙ sym (without_to k (view q.0) (view q.1) (pair_views ps) Greater stands.0)

find-StandsAt : (k : Val) (i : ℕ) (ps : List (Value × Value)) (p : Value × Value)
    → p ≡ get_or ps i p → StandsAt k i (pair_views ps)
    → find val_cmp k (entries (pair_views ps)) ≡ Some (view p.1)
find-StandsAt k i [] p is stands = absurd stands
find-StandsAt k zero (q ∷ ps) p is stands =
    rw stands (ap (λ (r : Value × Value). Some (view r.1)) (sym is))
find-StandsAt k (suc i) (q ∷ ps) p is stands = rw stands.0 (find-StandsAt k i ps p is stands.1)

pub get-StandsAt : (k : Val) (i : ℕ) (ps : List (Value × Value)) (p : Value × Value)
    → p ≡ get_or ps i p → StandsAt k i (pair_views ps)
    → Some (view p.1) ≡ finmap.get (finite_map (pair_views ps)) k
get-StandsAt k i ps p is stands =
    sym (get-finite_map k (pair_views ps) ∙ find-StandsAt k i ps p is stands)

-- ---- the key is missing

pub put-BelongsAt : (k v : Value) (i : ℕ) (ps : List (Value × Value))
    → BelongsAt (view k) i (pair_views ps)
    → pair_views (insert ps i (k, v)) ≡ put (view k) (view v) (pair_views ps)
put-BelongsAt k v zero ps belongs = sym (put-below (view k) (view v) (pair_views ps) belongs)
put-BelongsAt k v (suc i) [] belongs = absurd belongs
put-BelongsAt k v (suc i) (q ∷ ps) belongs =
    ap (pair (view q.0) (view q.1)) (put-BelongsAt k v i ps belongs.1)
    ∙ sym (put_to (view k) (view v) (view q.0) (view q.1) (pair_views ps) Greater belongs.0)

pub without-BelongsAt : (k : Val) (i : ℕ) (ps : Pairs) → BelongsAt k i ps → ps ≡ without k ps
without-BelongsAt k i no_pairs belongs = refl
without-BelongsAt k zero (pair l w ps) belongs = sym (without_to k l w ps Less belongs)
without-BelongsAt k (suc i) (pair l w ps) belongs =
    ap (pair l w) (without-BelongsAt k i ps belongs.1) ∙ sym (without_to k l w ps Greater belongs.0)

find-BelongsAt : (k : Val) (i : ℕ) (ps : Pairs) → BelongsAt k i ps → KeysAscend ps
    → find val_cmp k (entries ps) ≡ None
find-BelongsAt k zero ps belongs ascend = find-below k ps belongs ascend
find-BelongsAt k (suc i) no_pairs belongs ascend = absurd belongs
find-BelongsAt k (suc i) (pair l w ps) belongs ascend =
    rw belongs.0 (find-BelongsAt k i ps belongs.1 ascend.1)

pub get-BelongsAt : (k : Val) (i : ℕ) (ps : Pairs) → BelongsAt k i ps → KeysAscend ps
    → None ≡ finmap.get (finite_map ps) k
get-BelongsAt k i ps belongs ascend =
    sym (get-finite_map k ps ∙ find-BelongsAt k i ps belongs ascend)

-- ---- what follows for the whole map

pub inserted : (k v : Val) (ps qs : Pairs) → (KeysAscend ps → qs ≡ put k v ps) → KeysAscend ps
    → finite_map qs ≡ finmap.insert (finite_map ps) k v
inserted k v ps qs is ascend = ap finite_map (is ascend) ∙ finite_map-put k v ps ascend

pub inserted-ascending : (k v : Val) (ps qs : Pairs) → (KeysAscend ps → qs ≡ put k v ps)
    → KeysAscend ps → KeysAscend qs
inserted-ascending k v ps qs is ascend =
    subst KeysAscend (sym (is ascend)) (KeysAscend-put k v ps ascend)

pub inserted-ordered : (k v : Val) (ps qs : Pairs) → (KeysAscend ps → qs ≡ put k v ps)
    → ArePairsOrdered ps → IsOrdered k → IsOrdered v → ArePairsOrdered qs
inserted-ordered k v ps qs is ordered key value =
    subst ArePairsOrdered (sym (is (KeysAscend-from_IsOrdered ps ordered)))
    (IsOrdered-put k v ps key value ordered)

pub removed : (k : Val) (ps qs : Pairs) → (KeysAscend ps → qs ≡ without k ps) → KeysAscend ps
    → finite_map qs ≡ finmap.remove (finite_map ps) k
removed k ps qs is ascend = ap finite_map (is ascend) ∙ finite_map-without k ps ascend

pub removed-ascending : (k : Val) (ps qs : Pairs) → (KeysAscend ps → qs ≡ without k ps)
    → KeysAscend ps → KeysAscend qs
removed-ascending k ps qs is ascend =
    subst KeysAscend (sym (is ascend)) (KeysAscend-without k ps ascend)

pub removed-ordered : (k : Val) (ps qs : Pairs) → (KeysAscend ps → qs ≡ without k ps)
    → ArePairsOrdered ps → ArePairsOrdered qs
removed-ordered k ps qs is ordered =
    subst ArePairsOrdered (sym (is (KeysAscend-from_IsOrdered ps ordered)))
    (IsOrdered-without k ps ordered)

-- ---- copies

abbrev pub both_views : Value × Value → Val × Val
both_views p = (view p.0, view p.1)

pub copied_more : {A B : Type 0} (f : A → B) (ys xs : List A) (i : ℕ) (y x : A) → i < length xs
    → x ≡ get_or xs i x → f y ≡ f x → map f ys ≡ map f (take i xs)
    → map f (ys ++ y ∷ []) ≡ map f (take (i + 1) xs)
copied_more f ys xs i y x lt is same before =
    let more : take (i + 1) xs ≡ take i xs ++ x ∷ [] =
    rw add-one (take-suc xs i x lt ∙ ap (λ z. take i xs ++ z ∷ []) (sym is)) in
    map-append f ys (y ∷ [])
    ∙ ap₂ (λ a b. a ++ b ∷ []) before same
    ∙ sym (map-append f (take i xs) (x ∷ []))
    ∙ ap (map f) (sym more)

pub copied_views : (ys xs : List Value) (i : ℕ) → length xs ≤ i → map view ys ≡ map view (take i xs)
    → views ys ≡ views xs
copied_views ys xs i le same = ap vals_of (same ∙ ap (map view) (take_all i xs le))

pub copied_pairs : (ys xs : List (Value × Value)) (i : ℕ) → length xs ≤ i
    → map both_views ys ≡ map both_views (take i xs) → pair_views ys ≡ pair_views xs
copied_pairs ys xs i le same = ap pairs_of (same ∙ ap (map both_views) (take_all i xs le))

-- the pair of the greatest key is the last
pub last_pair-views : (ps : List (Value × Value))
    → last_pair (pair_views ps) ≡ option_map (λ (p : Value × Value). (view p.0, view p.1))
    (slice_get ps (length ps - 1))
last_pair-views [] = refl
last_pair-views (p ∷ []) = refl
last_pair-views (p ∷ (q ∷ ps)) =
    let at : suc (length (q ∷ ps) - 1) ≡ length (p ∷ (q ∷ ps)) - 1 = omega arith in
    last_pair-views (q ∷ ps)
    ∙ ap (λ (i : ℕ). option_map (λ (r : Value × Value). (view r.0, view r.1))
    (slice_get (p ∷ (q ∷ ps)) i)) at
