-- Pairs in the order of their keys: putting one in, leaving one out, and the finite map that they list.
use Rattle.std.proofs.Common.{◌≡◌, suc, Bool, true, false, cond, List, ◌∷◌, length, Option, Some, None, Ordering, Less, Equal, Greater, refl, sym, ap, subst, ◌∙◌}
use Rattle.std.specs.Ordering.{eq_by_cmp, ordering_reverse}
use Rattle.std.specs.Cmp.{Equal-is, tied_itself}
use Rattle.std.specs.Cmp.Lexicographic.{nat_list_cmp_total}
use Rattle.std.specs.FinMap.{insert, remove, get, len, find, same_map, same_entries_map, entries-insert, get-from_entries, get-remove, len-entries, len-empty}
use Rattle.std.specs.FinMap as finmap
use Rattle.std.proofs.lemmas.List.{nil_from_length}
use Rattle.cbor_model.specs.Plain.{Val, Pairs, no_pairs, pair, pair_count}
use Rattle.cbor_model.specs.Order.{flat}
use Rattle.cbor_model.specs.Value.{by_order, put}
use Rattle.cbor_model.specs.Canonical.{IsBelow, KeysAscend, IsOrdered, ArePairsOrdered}
use Rattle.cbor_model.specs.FiniteMap.{entries, finite_map, without}
use Rattle.cbor_model.specs.Order.{val_cmp}
use Rattle.cbor_model.proofs.order.Same.{val_cmp_total, exact_vals}

-- a split on the order, which each branch knows
pub by_order-cases : {A : Type 0} (P : A → Type 0) (o : Ordering) (a b c : A) → (o ≡ Less → P a) → (o ≡ Equal → P b) → (o ≡ Greater → P c) → P (by_order o a b c)
by_order-cases P Less a b c less same more = less refl
by_order-cases P Equal a b c less same more = same refl
by_order-cases P Greater a b c less same more = more refl

-- ---- the order of values, as their lists compare

pub Less-trans : (a b c : Val) → val_cmp a b ≡ Less → val_cmp b c ≡ Less → val_cmp a c ≡ Less
Less-trans a b c p q = nat_list_cmp_total.trans (flat a) (flat b) (flat c) p q

pub Less-from_Greater : (a b : Val) → val_cmp a b ≡ Greater → val_cmp b a ≡ Less
Less-from_Greater a b p = nat_list_cmp_total.antisymm (flat b) (flat a) ∙ ap ordering_reverse p

pub Greater-from_Less : (a b : Val) → val_cmp a b ≡ Less → val_cmp b a ≡ Greater
Greater-from_Less a b p = nat_list_cmp_total.antisymm (flat b) (flat a) ∙ ap ordering_reverse p

pub same_key : (a b : Val) → val_cmp a b ≡ Equal → a ≡ b
same_key a b p = exact_vals a b p

same_tied : (a b : Val) → eq_by_cmp val_cmp a b ≡ true → a ≡ b
same_tied a b p = exact_vals a b ((Equal-is (val_cmp a b)).0 p)

-- ---- a key below pairs

pub IsBelow-trans : (a b : Val) (ps : Pairs) → val_cmp a b ≡ Less → IsBelow b ps → IsBelow a ps
IsBelow-trans a b no_pairs p below = tt
IsBelow-trans a b (pair l w ps) p below = Less-trans a b l p below

pub IsBelow-put : (a k v : Val) (ps : Pairs) → val_cmp a k ≡ Less → IsBelow a ps → IsBelow a (put k v ps)
IsBelow-put a k v no_pairs p below = p
IsBelow-put a k v (pair l w ps) p below = by_order-cases (IsBelow a) (val_cmp k l) _ _ _ (λ less. p) (λ same. p) (λ more. below)

pub IsBelow-without : (a k : Val) (ps : Pairs) → KeysAscend ps → IsBelow a ps → IsBelow a (without k ps)
IsBelow-without a k no_pairs ascend below = tt
IsBelow-without a k (pair l w ps) ascend below =
    by_order-cases (IsBelow a) (val_cmp k l) _ _ _ (λ less. below) (λ same. IsBelow-trans a l ps below ascend.0) (λ more. below)

IsBelow-same : (k l : Val) (ps : Pairs) → val_cmp k l ≡ Equal → IsBelow l ps → IsBelow k ps
IsBelow-same k l ps same below = subst (λ (x : Val). IsBelow x ps) (sym (same_key k l same)) below

-- ---- ascending keys, and ordered pairs

pub KeysAscend-put : (k v : Val) (ps : Pairs) → KeysAscend ps → KeysAscend (put k v ps)
KeysAscend-put k v no_pairs ascend = (tt, tt)
KeysAscend-put k v (pair l w ps) ascend =
    by_order-cases KeysAscend (val_cmp k l) _ _ _
    (λ less. (less, ascend))
    (λ same. (IsBelow-same k l ps same ascend.0, ascend.1))
    (λ more. (IsBelow-put l k v ps (Less-from_Greater k l more) ascend.0, KeysAscend-put k v ps ascend.1))

pub KeysAscend-without : (k : Val) (ps : Pairs) → KeysAscend ps → KeysAscend (without k ps)
KeysAscend-without k no_pairs ascend = tt
KeysAscend-without k (pair l w ps) ascend =
    by_order-cases KeysAscend (val_cmp k l) _ _ _
    (λ less. ascend)
    (λ same. ascend.1)
    (λ more. (IsBelow-without l k ps ascend.1 ascend.0, KeysAscend-without k ps ascend.1))

pub KeysAscend-from_IsOrdered : (ps : Pairs) → ArePairsOrdered ps → KeysAscend ps
KeysAscend-from_IsOrdered no_pairs ordered = tt
KeysAscend-from_IsOrdered (pair k v ps) ordered = (ordered.0, KeysAscend-from_IsOrdered ps ordered.3)

pub IsOrdered-put : (k v : Val) (ps : Pairs) → IsOrdered k → IsOrdered v → ArePairsOrdered ps → ArePairsOrdered (put k v ps)
IsOrdered-put k v no_pairs key value ordered = (tt, key, value, tt)
IsOrdered-put k v (pair l w ps) key value ordered =
    by_order-cases ArePairsOrdered (val_cmp k l) _ _ _
    (λ less. (less, key, value, ordered))
    (λ same. (IsBelow-same k l ps same ordered.0, key, value, ordered.3))
    (λ more. (IsBelow-put l k v ps (Less-from_Greater k l more) ordered.0, ordered.1, ordered.2, IsOrdered-put k v ps key value ordered.3))

pub IsOrdered-without : (k : Val) (ps : Pairs) → ArePairsOrdered ps → ArePairsOrdered (without k ps)
IsOrdered-without k no_pairs ordered = tt
IsOrdered-without k (pair l w ps) ordered =
    by_order-cases ArePairsOrdered (val_cmp k l) _ _ _
    (λ less. ordered)
    (λ same. ordered.3)
    (λ more. (IsBelow-without l k ps (KeysAscend-from_IsOrdered ps ordered.3) ordered.0, ordered.1, ordered.2, IsOrdered-without k ps ordered.3))

-- ---- the finite map

pub length-entries : (ps : Pairs) → length (entries ps) ≡ pair_count ps
length-entries no_pairs = refl
length-entries (pair k v ps) = ap suc (length-entries ps)

pub get-finite_map : (q : Val) (ps : Pairs) → get (finite_map ps) q ≡ find val_cmp q (entries ps)
unfolding finite_map
get-finite_map q ps = get-from_entries val_cmp_total (entries ps) q

-- std keeps a key that ties, which is the same key
put_by : (o : Ordering) (k v l w : Val) (ps qs : Pairs) → val_cmp k l ≡ o → entries qs ≡ finmap.put val_cmp k v (entries ps)
    → entries (by_order o (pair k v (pair l w ps)) (pair k v ps) (pair l w qs)) ≡ finmap.put val_cmp k v ((l, w) ∷ entries ps)
put_by Less k v l w ps qs is rest = rw is refl
put_by Equal k v l w ps qs is rest = rw is (ap (λ (x : Val). (x, v) ∷ entries ps) (same_key k l is))
put_by Greater k v l w ps qs is rest = rw is (ap (λ (t : List (Val × Val)). (l, w) ∷ t) rest)

pub entries-put : (k v : Val) (ps : Pairs) → entries (put k v ps) ≡ finmap.put val_cmp k v (entries ps)
entries-put k v no_pairs = refl
entries-put k v (pair l w ps) = put_by (val_cmp k l) k v l w ps (put k v ps) refl (entries-put k v ps)

-- a key below the pairs goes to the front
pub put-below : (k v : Val) (ps : Pairs) → IsBelow k ps → put k v ps ≡ pair k v ps
put-below k v no_pairs below = refl
put-below k v (pair l w ps) below = ap (λ (o : Ordering). by_order o (pair k v (pair l w ps)) (pair k v ps) (pair l w (put k v ps))) below

pub entries-finite_map : (ps : Pairs) → KeysAscend ps → finmap.entries (finite_map ps) ≡ entries ps
unfolding finite_map
entries-finite_map no_pairs ascend = nil_from_length _ (sym (len-entries _) ∙ len-empty val_cmp Val)
entries-finite_map (pair k v ps) ascend =
    entries-insert val_cmp_total (finite_map ps) k v
    ∙ ap (finmap.put val_cmp k v) (entries-finite_map ps ascend.1)
    ∙ sym (entries-put k v ps)
    ∙ ap entries (put-below k v ps ascend.0)

pub len-finite_map : (ps : Pairs) → KeysAscend ps → len (finite_map ps) ≡ pair_count ps
len-finite_map ps ascend = len-entries (finite_map ps) ∙ ap length (entries-finite_map ps ascend) ∙ length-entries ps

pub finite_map-put : (k v : Val) (ps : Pairs) → KeysAscend ps → finite_map (put k v ps) ≡ insert (finite_map ps) k v
finite_map-put k v ps ascend =
    same_entries_map _ _
    (entries-finite_map (put k v ps) (KeysAscend-put k v ps ascend)
    ∙ entries-put k v ps
    ∙ ap (finmap.put val_cmp k v) (sym (entries-finite_map ps ascend))
    ∙ sym (entries-insert val_cmp_total (finite_map ps) k v))

-- ---- leaving a pair out

pub find-below : (q : Val) (ps : Pairs) → IsBelow q ps → KeysAscend ps → find val_cmp q (entries ps) ≡ None
find-below q no_pairs below ascend = refl
find-below q (pair l w ps) below ascend = rw below (find-below q ps (IsBelow-trans q l ps below ascend.0) ascend.1)

none_where : (b : Bool) (x : Option Val) → (b ≡ true → x ≡ None) → x ≡ cond b None x
none_where true x none = none refl
none_where false x none = refl

none_for : (b : Bool) (x y : Option Val) → (b ≡ true → x ≡ None) → x ≡ cond b None (cond b y x)
none_for true x y none = none refl
none_for false x y none = refl

turned : (a b : Bool) (x y : Option Val) → (a ≡ true → b ≡ true → ⊥) → cond a x (cond b None y) ≡ cond b None (cond a x y)
turned true true x y apart = absurd (apart refl refl)
turned true false x y apart = refl
turned false b x y apart = refl

find-without : (q k : Val) (ps : Pairs) → KeysAscend ps → find val_cmp q (entries (without k ps)) ≡ cond (eq_by_cmp val_cmp q k) None (find val_cmp q (entries ps))
find-without q k no_pairs ascend = none_where (eq_by_cmp val_cmp q k) None (λ tied. refl)
find-without q k (pair l w ps) ascend =
    let found = find val_cmp q (entries ps) in
    by_order-cases (λ (r : Pairs). find val_cmp q (entries r) ≡ cond (eq_by_cmp val_cmp q k) None (find val_cmp q (entries (pair l w ps)))) (val_cmp k l) _ _ _
    (λ less. none_where (eq_by_cmp val_cmp q k) _ (λ tied. find-below q (pair l w ps) (ap (λ (x : Val). val_cmp x l) (same_tied q k tied) ∙ less) ascend))
    (λ same.
    let key = same_key k l same in
    none_for (eq_by_cmp val_cmp q k) found (Some w) (λ tied. find-below q ps (subst (λ (x : Val). IsBelow x ps) (sym (same_tied q k tied ∙ key)) ascend.0) ascend.1)
    ∙ ap (λ (x : Val). cond (eq_by_cmp val_cmp q k) None (cond (eq_by_cmp val_cmp q x) (Some w) found)) key)
    (λ more.
    ap (cond (eq_by_cmp val_cmp q l) (Some w)) (find-without q k ps ascend.1)
    ∙ turned (eq_by_cmp val_cmp q l) (eq_by_cmp val_cmp q k) (Some w) found (λ one other.
    let key : k ≡ l = sym (same_tied q k other) ∙ same_tied q l one in
    let tied = ap (λ (x : Val). val_cmp k x) (sym key) ∙ tied_itself nat_list_cmp_total (flat k) in
    cc))

pub finite_map-without : (k : Val) (ps : Pairs) → KeysAscend ps → finite_map (without k ps) ≡ remove (finite_map ps) k
finite_map-without k ps ascend =
    same_map val_cmp_total exact_vals _ _ (λ q.
    get-finite_map q (without k ps)
    ∙ find-without q k ps ascend
    ∙ ap (cond (eq_by_cmp val_cmp q k) None) (sym (get-finite_map q ps))
    ∙ sym (get-remove val_cmp_total (finite_map ps) k q))
