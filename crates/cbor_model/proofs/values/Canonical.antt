-- The value of an acceptable item is ordered, and its canonical item is acceptable.
use Rattle.std.proofs.Common.{◌≡◌, ℕ, suc, ◌+◌, ◌^◌, ◌<◌, ◌≤◌, Bool, true, false, cond, List, [], ◌∷◌, ◌++◌, length, IsUtf8, refl, arith}
use Rattle.std.specs.Prelude.{flat_map, nat_lt}
use Rattle.std.specs.List.{AllByRecursion}
use Rattle.std.proofs.lemmas.Bool.{ltb-true}
use Rattle.std.proofs.lemmas.List.{length-append}
use Rattle.cbor_model.specs.Head.{HeadWidth, no_bytes, one_byte, two_bytes, four_bytes, limit, least, head}
use Rattle.cbor_model.specs.Raw as raw
use Rattle.cbor_model.specs.Raw.{Length, definite, indefinite, Raw, Raws, no_raws, RawPairs, no_raw_pairs, raw_pair, Chunk, joined, false_item, true_item, null_item, undefined_item, AreBytes, IsChunk, IsWellFormed, AreWellFormed, ArePairsWellFormed, depth, depth_all, depth_pairs, EachText, EachTextOfAll, EachTextOfPairs}
use Rattle.cbor_model.specs.Spelling.{spell, spell_all, spell_pairs, chunk, enclosed, break}
use Rattle.cbor_model.specs.Acceptable.{IsAcceptableWithin}
use Rattle.cbor_model.specs.Plain.{Val, Pairs, no_pairs, pair}
use Rattle.cbor_model.specs.Order.{val_cmp}
use Rattle.cbor_model.specs.Value.{value, values, pairs, put, simple_value}
use Rattle.cbor_model.specs.Canonical.{IsStorable, IsOrdered, AreOrdered, ArePairsOrdered, canonical, canonical_all, canonical_pairs}
use Rattle.cbor_model.proofs.reader.Again.{count-le, pair_count-le}
use Rattle.cbor_model.proofs.reader.Bytes.{AreBytes-append}
use Rattle.cbor_model.proofs.values.Storable.{limit-le, storable}
use Rattle.cbor_model.proofs.order.Pairs.{by_order-cases, IsOrdered-put}

-- ---- ordered

simple_ordered : (s : raw.Simple) → IsOrdered (simple_value s)
simple_ordered false_item = tt
simple_ordered true_item = tt
simple_ordered null_item = tt
simple_ordered undefined_item = tt

mutual
  unfolding value

  pub ordered : (r : Raw) → IsOrdered (value r)
  ordered (raw.unsigned w n) = tt
  ordered (raw.negative w n) = tt
  ordered (raw.bytes c) = tt
  ordered (raw.text c) = tt
  ordered (raw.bytes_chunks cs) = tt
  ordered (raw.text_chunks cs) = tt
  ordered (raw.array l rs) = all_ordered rs
  ordered (raw.map l ps) = pairs_ordered ps no_pairs tt
  ordered (raw.tag w n r) = ordered r
  ordered (raw.simple s) = simple_ordered s
  ordered (raw.float w bits) = tt

  all_ordered : (rs : Raws) → AreOrdered (values rs)
  all_ordered no_raws = tt
  all_ordered (raw.raw r rs) = (ordered r, all_ordered rs)

  pairs_ordered : (ps : RawPairs) (before : Pairs) → ArePairsOrdered before → ArePairsOrdered (pairs ps before)
  pairs_ordered no_raw_pairs before all = all
  pairs_ordered (raw_pair k v ps) before all = pairs_ordered ps (put (value k) (value v) before) (IsOrdered-put (value k) (value v) before (ordered k) (ordered v) all)

-- ---- no deeper

depth_put : (k v : Val) (ps : Pairs) (levels : ℕ) → depth (canonical k) ≤ levels → depth (canonical v) ≤ levels → depth_pairs (canonical_pairs ps) ≤ levels → depth_pairs (canonical_pairs (put k v ps)) ≤ levels
unfolding canonical
depth_put k v no_pairs levels key val all = omega arith
depth_put k v (pair l w ps) levels key val all =
    let rest = depth_put k v ps levels key val (omega arith) in
    by_order-cases (λ (r : Pairs). depth_pairs (canonical_pairs r) ≤ levels) (val_cmp k l) _ _ _ (λ less. omega arith) (λ same. omega arith) (λ more. omega arith)

simple_flat : (s : raw.Simple) → depth (canonical (simple_value s)) ≤ 0
unfolding canonical
simple_flat false_item = omega arith
simple_flat true_item = omega arith
simple_flat null_item = omega arith
simple_flat undefined_item = omega arith

mutual
  unfolding value canonical

  pub no_deeper : (r : Raw) → depth (canonical (value r)) ≤ depth r
  no_deeper (raw.unsigned w n) = omega arith
  no_deeper (raw.negative w n) = omega arith
  no_deeper (raw.bytes c) = omega arith
  no_deeper (raw.text c) = omega arith
  no_deeper (raw.bytes_chunks cs) = omega arith
  no_deeper (raw.text_chunks cs) = omega arith
  no_deeper (raw.array l rs) = omega (arith, all_no_deeper rs)
  no_deeper (raw.map l ps) = omega (arith, pairs_no_deeper ps no_pairs (depth_pairs ps) (omega arith) (omega arith))
  no_deeper (raw.tag w n r) = omega (arith, no_deeper r)
  no_deeper (raw.simple s) = simple_flat s
  no_deeper (raw.float w bits) = omega arith

  all_no_deeper : (rs : Raws) → depth_all (canonical_all (values rs)) ≤ depth_all rs
  all_no_deeper no_raws = omega arith
  all_no_deeper (raw.raw r rs) = omega (arith, no_deeper r, all_no_deeper rs)

  pairs_no_deeper : (ps : RawPairs) (before : Pairs) (levels : ℕ) → depth_pairs ps ≤ levels → depth_pairs (canonical_pairs before) ≤ levels → depth_pairs (canonical_pairs (pairs ps before)) ≤ levels
  pairs_no_deeper no_raw_pairs before levels nests all = all
  pairs_no_deeper (raw_pair k v ps) before levels nests all =
      pairs_no_deeper ps (put (value k) (value v) before) levels (omega arith)
      (depth_put (value k) (value v) before levels (omega (arith, no_deeper k)) (omega (arith, no_deeper v)) all)

-- ---- the same texts

module _ (P : List ℕ → Type 0) where
  texts_put : (k v : Val) (ps : Pairs) → EachText P (canonical k) → EachText P (canonical v) → EachTextOfPairs P (canonical_pairs ps) → EachTextOfPairs P (canonical_pairs (put k v ps))
  unfolding canonical
  texts_put k v no_pairs key val all = (key, val, tt)
  texts_put k v (pair l w ps) key val all =
      by_order-cases (λ (r : Pairs). EachTextOfPairs P (canonical_pairs r)) (val_cmp k l) _ _ _
      (λ less. (key, val, all))
      (λ same. (key, val, all.2))
      (λ more. (all.0, all.1, texts_put k v ps key val all.2))

  simple_texts : (s : raw.Simple) → EachText P (canonical (simple_value s))
  unfolding canonical
  simple_texts false_item = tt
  simple_texts true_item = tt
  simple_texts null_item = tt
  simple_texts undefined_item = tt

  mutual
    unfolding value canonical

    pub same_texts : (r : Raw) → EachText P r → EachText P (canonical (value r))
    same_texts (raw.unsigned w n) texts = tt
    same_texts (raw.negative w n) texts = tt
    same_texts (raw.bytes c) texts = tt
    same_texts (raw.text c) texts = texts
    same_texts (raw.bytes_chunks cs) texts = tt
    same_texts (raw.text_chunks cs) texts = texts
    same_texts (raw.array l rs) texts = all_same_texts rs texts
    same_texts (raw.map l ps) texts = pairs_same_texts ps no_pairs texts tt
    same_texts (raw.tag w n r) texts = same_texts r texts
    same_texts (raw.simple s) texts = simple_texts s
    same_texts (raw.float w bits) texts = tt

    all_same_texts : (rs : Raws) → EachTextOfAll P rs → EachTextOfAll P (canonical_all (values rs))
    all_same_texts no_raws texts = tt
    all_same_texts (raw.raw r rs) texts = (same_texts r texts.0, all_same_texts rs texts.1)

    pairs_same_texts : (ps : RawPairs) (before : Pairs) → EachTextOfPairs P ps → EachTextOfPairs P (canonical_pairs before) → EachTextOfPairs P (canonical_pairs (pairs ps before))
    pairs_same_texts no_raw_pairs before texts all = all
    pairs_same_texts (raw_pair k v ps) before texts all =
        pairs_same_texts ps (put (value k) (value v) before) texts.2 (texts_put (value k) (value v) before (same_texts k texts.0) (same_texts v texts.1) all)

-- ---- well formed

module _ (n : ℕ) where
  in_first : (b : Bool) (u w : HeadWidth) → nat_lt n (limit u) ≡ b → n < limit w → n < limit (cond b u w)
  in_first true u w is other = ltb-true n (limit u) is
  in_first false u w is other = other

  pub lt-limit-least : n < 2 ^ 64 → n < limit (least n)
  lt-limit-least below =
      in_first (nat_lt n (limit no_bytes)) no_bytes _ refl
      (in_first (nat_lt n (limit one_byte)) one_byte _ refl
      (in_first (nat_lt n (limit two_bytes)) two_bytes _ refl
      (in_first (nat_lt n (limit four_bytes)) four_bytes _ refl below)))

fits_least : (w : HeadWidth) (n : ℕ) → n < limit w → n < limit (least n)
fits_least w n fits = lt-limit-least n (omega (arith, limit-le w))

joined_bytes : (cs : List Chunk) → AllByRecursion IsChunk cs → AreBytes (joined cs)
joined_bytes [] fits = λ i. omega arith
joined_bytes (c ∷ cs) fits = AreBytes-append c.bytes (joined cs) fits.0.1 (joined_bytes cs fits.1)

joined-length : (major : ℕ) (cs : List Chunk) → length (joined cs) ≤ length (flat_map (chunk major) cs)
joined-length major [] = omega arith
joined-length major (c ∷ cs) =
    omega (arith, joined-length major cs, length-append c.bytes (joined cs), length-append (chunk major c) (flat_map (chunk major) cs), length-append (head major c.width (length c.bytes)) c.bytes)

joined_fits : (major : ℕ) (cs : List Chunk) → length (flat_map (chunk major) cs ++ break) < 2 ^ 64 → length (joined cs) < limit (least (length (joined cs)))
joined_fits major cs short = lt-limit-least (length (joined cs)) (omega (arith, joined-length major cs, length-append (flat_map (chunk major) cs) break))

pub count_values : (rs : Raws) → raw.count (canonical_all (values rs)) ≤ raw.count rs
unfolding value canonical
count_values no_raws = omega arith
count_values (raw.raw r rs) = omega (arith, count_values rs)

count_put : (k v : Val) (ps : Pairs) → raw.pair_count (canonical_pairs (put k v ps)) ≤ suc (raw.pair_count (canonical_pairs ps))
unfolding canonical
count_put k v no_pairs = omega arith
count_put k v (pair l w ps) =
    let rest = count_put k v ps in
    by_order-cases (λ (r : Pairs). raw.pair_count (canonical_pairs r) ≤ suc (suc (raw.pair_count (canonical_pairs ps)))) (val_cmp k l) _ _ _ (λ less. omega arith) (λ same. omega arith) (λ more. omega arith)

pub count_pairs : (ps : RawPairs) (before : Pairs) → raw.pair_count (canonical_pairs (pairs ps before)) ≤ raw.pair_count ps + raw.pair_count (canonical_pairs before)
unfolding value canonical
count_pairs no_raw_pairs before = omega arith
count_pairs (raw_pair k v ps) before = omega (arith, count_pairs ps (put (value k) (value v) before), count_put (value k) (value v) before)

well_formed_put : (k v : Val) (ps : Pairs) → IsWellFormed (canonical k) → IsWellFormed (canonical v) → ArePairsWellFormed (canonical_pairs ps) → ArePairsWellFormed (canonical_pairs (put k v ps))
unfolding canonical
well_formed_put k v no_pairs key val all = (key, val, tt)
well_formed_put k v (pair l w ps) key val all =
    by_order-cases (λ (r : Pairs). ArePairsWellFormed (canonical_pairs r)) (val_cmp k l) _ _ _
    (λ less. (key, val, all))
    (λ same. (key, val, all.2))
    (λ more. (all.0, all.1, well_formed_put k v ps key val all.2))

simple_well_formed : (s : raw.Simple) → IsWellFormed (canonical (simple_value s))
unfolding canonical
simple_well_formed false_item = tt
simple_well_formed true_item = tt
simple_well_formed null_item = tt
simple_well_formed undefined_item = tt

-- counts fit, since no more items or pairs are spelled than bytes
array_fits : (rs : Raws) → AreWellFormed rs → length (spell_all rs) < 2 ^ 64 → raw.count (canonical_all (values rs)) < limit (least (raw.count (canonical_all (values rs))))
array_fits rs fits short = lt-limit-least _ (omega (arith, count_values rs, count-le rs fits))

map_fits : (ps : RawPairs) → ArePairsWellFormed ps → length (spell_pairs ps) < 2 ^ 64 → raw.pair_count (canonical_pairs (pairs ps no_pairs)) < limit (least (raw.pair_count (canonical_pairs (pairs ps no_pairs))))
unfolding canonical
map_fits ps fits short = lt-limit-least _ (omega (arith, count_pairs ps no_pairs, pair_count-le ps fits))

-- what is enclosed is no longer than the whole
length-enclosed : (major : ℕ) (l : Length) (n : ℕ) (items : List ℕ) → length items ≤ length (enclosed major l n items)
length-enclosed major (definite w) n items = omega (arith, length-append (head major w n) items)
length-enclosed major indefinite n items = omega (arith, length-append items break)

mutual
  unfolding value canonical spell

  pub well_formed : (r : Raw) → IsWellFormed r → length (spell r) < 2 ^ 64 → IsWellFormed (canonical (value r))
  well_formed (raw.unsigned w n) fits short = fits_least w n fits
  well_formed (raw.negative w n) fits short = fits_least w n fits
  well_formed (raw.bytes c) fits short = (fits_least c.width (length c.bytes) fits.0, fits.1)
  well_formed (raw.text c) fits short = (fits_least c.width (length c.bytes) fits.0, fits.1)
  well_formed (raw.bytes_chunks cs) fits short = (joined_fits 2 cs (omega arith), joined_bytes cs fits)
  well_formed (raw.text_chunks cs) fits short = (joined_fits 3 cs (omega arith), joined_bytes cs fits)
  well_formed (raw.array l rs) fits short =
      let few : length (spell_all rs) < 2 ^ 64 = omega (arith, length-enclosed 4 l (raw.count rs) (spell_all rs)) in
      (array_fits rs fits.1 few, all_well_formed rs fits.1 few)
  well_formed (raw.map l ps) fits short =
      let few : length (spell_pairs ps) < 2 ^ 64 = omega (arith, length-enclosed 5 l (raw.pair_count ps) (spell_pairs ps)) in
      (map_fits ps fits.1 few, pairs_well_formed ps no_pairs fits.1 few tt)
  well_formed (raw.tag w n r) fits short = (fits_least w n fits.0, well_formed r fits.1 (omega (arith, length-append (head 6 w n) (spell r))))
  well_formed (raw.simple s) fits short = simple_well_formed s
  well_formed (raw.float w bits) fits short = fits

  all_well_formed : (rs : Raws) → AreWellFormed rs → length (spell_all rs) < 2 ^ 64 → AreWellFormed (canonical_all (values rs))
  all_well_formed no_raws fits short = tt
  all_well_formed (raw.raw r rs) fits short =
      let parts = length-append (spell r) (spell_all rs) in
      (well_formed r fits.0 (omega arith), all_well_formed rs fits.1 (omega arith))

  pairs_well_formed : (ps : RawPairs) (before : Pairs) → ArePairsWellFormed ps → length (spell_pairs ps) < 2 ^ 64 → ArePairsWellFormed (canonical_pairs before) → ArePairsWellFormed (canonical_pairs (pairs ps before))
  pairs_well_formed no_raw_pairs before fits short all = all
  pairs_well_formed (raw_pair k v ps) before fits short all =
      let parts = length-append (spell k) (spell v ++ spell_pairs ps) in
      let parts' = length-append (spell v) (spell_pairs ps) in
      pairs_well_formed ps (put (value k) (value v) before) fits.2 (omega arith)
      (well_formed_put (value k) (value v) before (well_formed k fits.0 (omega arith)) (well_formed v fits.1 (omega arith)) all)

-- ---- the law

pub canonical_acceptable : (levels : ℕ) (r : Raw) → IsAcceptableWithin levels r → length (spell r) < 2 ^ 64 → IsAcceptableWithin levels (canonical (value r))
canonical_acceptable levels r good short = record {
  fits = well_formed r good.fits short;
  nests = omega (arith, good.nests, no_deeper r);
  texts = same_texts IsUtf8 r good.texts;
}

pub value_is_canonical : (levels : ℕ) (r : Raw) → IsAcceptableWithin levels r → length (spell r) < 2 ^ 64
    → IsStorable (value r) × IsOrdered (value r) × IsAcceptableWithin levels (canonical (value r))
value_is_canonical levels r good short = (storable r good.fits, ordered r, canonical_acceptable levels r good short)
