-- Pairs put in one after the other: what is found among them, and that ascending pairs stay as they are.
use Rattle.std.proofs.Common.{◌≡◌, cond, List, [], ◌∷◌, ◌++◌, reverse, Some, Ordering, Greater, refl, sym, ap, ◌∙◌, append_assoc}
use Rattle.std.proofs.lemmas.List.{append-nil, reverse-append}
use Rattle.std.specs.Ordering.{eq_by_cmp}
use Rattle.std.specs.FinMap.{find, same_map}
use Rattle.std.specs.FinMap as finmap
use Rattle.std.specs.FinMap.Entries as listed
use Rattle.cbor_model.specs.Plain.{Val, Pairs, no_pairs, pair}
use Rattle.cbor_model.specs.Raw.{RawPairs, no_raw_pairs, raw_pair}
use Rattle.cbor_model.specs.Value.{value, pairs, by_order, put}
use Rattle.cbor_model.specs.Canonical.{IsBelow, KeysAscend}
use Rattle.cbor_model.specs.FiniteMap.{entries, finite_map, put_all, listed_pairs}
use Rattle.cbor_model.specs.Order.{val_cmp}
use Rattle.cbor_model.proofs.order.Same.{val_cmp_total, exact_vals}
use Rattle.cbor_model.proofs.order.Pairs.{Greater-from_Less, IsBelow-trans, KeysAscend-put, get-finite_map, entries-put, entries-finite_map}

pub KeysAscend-put_all : (ps before : Pairs) → KeysAscend before → KeysAscend (put_all ps before)
KeysAscend-put_all no_pairs before ascend = ascend
KeysAscend-put_all (pair k v ps) before ascend = KeysAscend-put_all ps (put k v before) (KeysAscend-put k v before ascend)

-- ---- of equal keys the last pair's value is found

find-append_same : (q : Val) (es fs gs : List (Val × Val)) → find val_cmp q fs ≡ find val_cmp q gs → find val_cmp q (es ++ fs) ≡ find val_cmp q (es ++ gs)
find-append_same q [] fs gs same = same
find-append_same q (e ∷ es) fs gs same = ap (cond (eq_by_cmp val_cmp q e.0) (Some e.1)) (find-append_same q es fs gs same)

find-put : (q k v : Val) (ps : Pairs) → find val_cmp q (entries (put k v ps)) ≡ find val_cmp q ((k, v) ∷ entries ps)
find-put q k v ps = ap (find val_cmp q) (entries-put k v ps) ∙ listed.find-put val_cmp val_cmp_total q k v (entries ps)

find-put_all-onto : (q : Val) (ps before : Pairs) → find val_cmp q (entries (put_all ps before)) ≡ find val_cmp q (reverse (entries ps) ++ entries before)
find-put_all-onto q no_pairs before = refl
find-put_all-onto q (pair k v ps) before =
    let back = reverse (entries ps) in
    find-put_all-onto q ps (put k v before)
    ∙ find-append_same q back (entries (put k v before)) ((k, v) ∷ entries before) (find-put q k v before)
    ∙ ap (find val_cmp q) (sym (append_assoc back ((k, v) ∷ []) (entries before)) ∙ ap (λ (l : List (Val × Val)). l ++ entries before) (sym (reverse-append ((k, v) ∷ []) (entries ps))))

pub find-put_all : (q : Val) (ps : Pairs) → find val_cmp q (entries (put_all ps no_pairs)) ≡ find val_cmp q (reverse (entries ps))
find-put_all q ps = find-put_all-onto q ps no_pairs ∙ ap (find val_cmp q) (append-nil (reverse (entries ps)))

-- ---- ascending pairs are told apart by what is found in them

abbrev pairs_from : List (Val × Val) → Pairs
pairs_from [] = no_pairs
pairs_from (e ∷ es) = pair e.0 e.1 (pairs_from es)

pairs_from-entries : (ps : Pairs) → pairs_from (entries ps) ≡ ps
pairs_from-entries no_pairs = refl
pairs_from-entries (pair k v ps) = ap (pair k v) (pairs_from-entries ps)

pub same_pairs : (ps qs : Pairs) → KeysAscend ps → KeysAscend qs → ((q : Val) → find val_cmp q (entries ps) ≡ find val_cmp q (entries qs)) → ps ≡ qs
same_pairs ps qs up also_up same =
    let maps = same_map val_cmp_total exact_vals (finite_map ps) (finite_map qs) (λ q. get-finite_map q ps ∙ same q ∙ sym (get-finite_map q qs)) in
    let listed : entries ps ≡ entries qs = sym (entries-finite_map ps up) ∙ ap finmap.entries maps ∙ entries-finite_map qs also_up in
    sym (pairs_from-entries ps) ∙ ap pairs_from listed ∙ pairs_from-entries qs

-- ---- ascending pairs stay as they are

put-past : (k v l w : Val) (ps : Pairs) → val_cmp k l ≡ Greater → put k v (pair l w ps) ≡ pair l w (put k v ps)
put-past k v l w ps more = ap (λ (o : Ordering). by_order o (pair k v (pair l w ps)) (pair k v ps) (pair l w (put k v ps))) more

put_all-below : (k v : Val) (ps before : Pairs) → IsBelow k ps → KeysAscend ps → put_all ps (pair k v before) ≡ pair k v (put_all ps before)
put_all-below k v no_pairs before below ascend = refl
put_all-below k v (pair l w ps) before below ascend =
    ap (put_all ps) (put-past l w k v before (Greater-from_Less k l below))
    ∙ put_all-below k v ps (put l w before) (IsBelow-trans k l ps below ascend.0) ascend.1

pub put_all-ascending : (ps : Pairs) → KeysAscend ps → put_all ps no_pairs ≡ ps
put_all-ascending no_pairs ascend = refl
put_all-ascending (pair k v ps) ascend = put_all-below k v ps no_pairs ascend.0 ascend.1 ∙ ap (pair k v) (put_all-ascending ps ascend.1)

-- ---- the pairs of an item

abbrev pairs_listed : RawPairs → Pairs
pairs_listed no_raw_pairs = no_pairs
pairs_listed (raw_pair k v ps) = pair (value k) (value v) (pairs_listed ps)

pairs-put_all : (ps : RawPairs) (before : Pairs) → pairs ps before ≡ put_all (pairs_listed ps) before
unfolding value
pairs-put_all no_raw_pairs before = refl
pairs-put_all (raw_pair k v ps) before = pairs-put_all ps (put (value k) (value v) before)

entries-pairs_listed : (ps : RawPairs) → entries (pairs_listed ps) ≡ listed_pairs ps
entries-pairs_listed no_raw_pairs = refl
entries-pairs_listed (raw_pair k v ps) = ap (λ (es : List (Val × Val)). (value k, value v) ∷ es) (entries-pairs_listed ps)

pub last_pair_stays : (k : Val) (ps : RawPairs) → finmap.get (finite_map (pairs ps no_pairs)) k ≡ find val_cmp k (reverse (listed_pairs ps))
last_pair_stays k ps =
    get-finite_map k (pairs ps no_pairs)
    ∙ ap (λ (qs : Pairs). find val_cmp k (entries qs)) (pairs-put_all ps no_pairs)
    ∙ find-put_all k (pairs_listed ps)
    ∙ ap (λ (es : List (Val × Val)). find val_cmp k (reverse es)) (entries-pairs_listed ps)
