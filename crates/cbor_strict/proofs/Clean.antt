-- An item without departures is the canonical item of its value.
use Rattle.std.proofs.Common.{pos, negsuc, ◌≡◌, ℕ, ◌+◌, ◌^◌, ◌<◌, ◌≤◌, Bool, true, false, cond, ltb, List, [], ◌∷◌, ◌++◌, length, Option, Some, None, Ordering, Less, Equal, Greater, refl, sym, ap, ap₂, subst, ◌∙◌, arith}
use Rattle.std.proofs.lemmas.Bool.{lt-ltb, le-ltb, ltb-false}
use Rattle.cbor_model.specs.Head.{HeadWidth, no_bytes, one_byte, two_bytes, four_bytes, eight_bytes, limit, least}
use Rattle.cbor_model.specs.Raw as raw
use Rattle.cbor_model.specs.Raw.{definite, indefinite, Raw, Raws, no_raws, RawPairs, no_raw_pairs, raw_pair, false_item, true_item, null_item, undefined_item, IsWellFormed, AreWellFormed, ArePairsWellFormed}
use Rattle.cbor_model.specs.Spelling.{spell}
use Rattle.cbor_model.specs.Plain.{Val, null, bool, integer, float, bytes, text, array, map, tag, Vals, no_vals, val, Pairs, no_pairs, pair}
use Rattle.cbor_model.specs.Order.{val_cmp}
use Rattle.cbor_model.specs.Value.{value, values, pairs, by_order}
use Rattle.cbor_model.specs.Canonical.{canonical_bool, canonical, canonical_all, canonical_pairs, IsBelow, KeysAscend, IsOrdered, AreOrdered, ArePairsOrdered}
use Rattle.cbor_strict.specs.Departure.{floor, head_end, long_head, undefined_at, not_above, departures, all_departures, pair_departures}
use Rattle.cbor_model.proofs.values.ReadsBack.{followed_by, reads_back}
use Rattle.cbor_strict.proofs.Copied.{followed_by-none, followed_by_assoc, put-last, floor-least-le}

-- ---- lists that are empty

abbrev AreNone : List ℕ → List ℕ → Type 0
AreNone xs ys = (xs ≡ []) × (ys ≡ [])

pub none_both : (xs ys : List ℕ) → xs ++ ys ≡ [] → AreNone xs ys
none_both [] ys is = (refl, is)
none_both (x ∷ xs) ys is = absurd cc

pub both_none : (xs ys : List ℕ) → xs ≡ [] → ys ≡ [] → xs ++ ys ≡ []
both_none xs ys one other = rw one other

-- ---- heads

-- a width that a number fits, and no narrower one, is its least
pub least-is : (w : HeadWidth) (n : ℕ) → n < limit w → floor w ≤ n → least n ≡ w
least-is no_bytes n fits least = rw (lt-ltb n 24 fits) refl
least-is one_byte n fits least = rw (le-ltb n 24 least, lt-ltb n (2 ^ 8) fits) refl
least-is two_bytes n fits least = rw (le-ltb n 24 (omega (arith, least)), le-ltb n (2 ^ 8) least, lt-ltb n (2 ^ 16) fits) refl
least-is four_bytes n fits least = rw (le-ltb n 24 (omega (arith, least)), le-ltb n (2 ^ 8) (omega (arith, least)), le-ltb n (2 ^ 16) least, lt-ltb n (2 ^ 32) fits) refl
least-is eight_bytes n fits least = rw (le-ltb n 24 (omega (arith, least)), le-ltb n (2 ^ 8) (omega (arith, least)), le-ltb n (2 ^ 16) (omega (arith, least)), le-ltb n (2 ^ 32) least) refl

pub shortest : (at major : ℕ) (w : HeadWidth) (n : ℕ) → n < limit w → long_head at major w n ≡ [] → w ≡ least n
shortest at major w n fits none = by_test (ltb n (floor w)) refl none
  where
    by_test : (b : Bool) → ltb n (floor w) ≡ b → cond b (head_end at major w n ∷ []) [] ≡ [] → w ≡ least n
    by_test true is none = absurd cc
    by_test false is none = sym (least-is w n fits (ltb-false n (floor w) is))

pub short-none : (at major n : ℕ) → long_head at major (least n) n ≡ []
short-none at major n = rw (le-ltb n (floor (least n)) (floor-least-le n)) refl

-- ---- keys

-- the pairs, one by one
abbrev pub listed : RawPairs → Pairs
listed no_raw_pairs = no_pairs
listed (raw_pair k v ps) = pair (value k) (value v) (listed ps)

pub pairs-listed : (ps : RawPairs) (before : Pairs) → KeysAscend (followed_by before (listed ps)) → pairs ps before ≡ followed_by before (listed ps)
unfolding value
pairs-listed no_raw_pairs before ascend = sym (followed_by-none before)
pairs-listed (raw_pair k v ps) before ascend =
    let moved = followed_by_assoc before (pair (value k) (value v) no_pairs) (listed ps) in
    ap (pairs ps) (put-last (value k) (value v) before (listed ps) ascend)
    ∙ pairs-listed ps (followed_by before (pair (value k) (value v) no_pairs)) (subst KeysAscend (sym moved) ascend)
    ∙ moved

-- above the key before it, where there is one
abbrev pub IsAbove : Option Raw → Val → Type 0
IsAbove None k = Unit {0}
IsAbove (Some l) k = val_cmp (value l) k ≡ Less

abbrev AreAbove : Option Raw → Pairs → Type 0
AreAbove None ps = Unit {0}
AreAbove (Some l) ps = IsBelow (value l) ps

pub above : (end : ℕ) (before : Option Raw) (k : Raw) → not_above end before k ≡ [] → IsAbove before (value k)
above end None k none = tt
above end (Some l) k none = by_cases (val_cmp (value l) (value k)) refl none
  where
    by_cases : (o : Ordering) → val_cmp (value l) (value k) ≡ o → by_order o [] (end ∷ []) (end ∷ []) ≡ [] → val_cmp (value l) (value k) ≡ Less
    by_cases Less is none = is
    by_cases Equal is none = absurd cc
    by_cases Greater is none = absurd cc

first_above : (before : Option Raw) (k v : Raw) (ps : Pairs) → IsAbove before (value k) → AreAbove before (pair (value k) (value v) ps)
first_above None k v ps is = tt
first_above (Some l) k v ps is = is

-- ---- items

record ArePlain (before : Option Raw) (ps : RawPairs) : Type 0 where
  same : ps ≡ canonical_pairs (listed ps)
  firsts : AreAbove before (listed ps)
  ascend : KeysAscend (listed ps)

mutual
  unfolding departures value canonical

  pub clean : (at : ℕ) (r : Raw) → IsWellFormed r → departures at r ≡ [] → r ≡ canonical (value r)
  clean at (raw.unsigned w n) fits none = ap (λ (w : HeadWidth). raw.unsigned w n) (shortest at 0 w n fits none)
  clean at (raw.negative w n) fits none = ap (λ (w : HeadWidth). raw.negative w n) (shortest at 1 w n fits none)
  clean at (raw.bytes c) fits none = ap (λ (w : HeadWidth). raw.bytes (record { width = w; bytes = c.bytes })) (shortest at 2 c.width (length c.bytes) fits.0 none)
  clean at (raw.text c) fits none = ap (λ (w : HeadWidth). raw.text (record { width = w; bytes = c.bytes })) (shortest at 3 c.width (length c.bytes) fits.0 none)
  clean at (raw.bytes_chunks cs) fits none = absurd cc
  clean at (raw.text_chunks cs) fits none = absurd cc
  clean at (raw.array (definite w) rs) fits none =
      let n = raw.count rs in
      let parts = none_both (long_head at 4 w n) (all_departures (head_end at 4 w n) rs) none in
      let items = all_clean (head_end at 4 w n) rs fits.1 parts.1 in
      ap (λ (w : HeadWidth). raw.array (definite w) rs) (shortest at 4 w n fits.0 parts.0)
      ∙ ap (λ (rs : Raws). raw.array (definite (least (raw.count rs))) rs) items
  clean at (raw.array indefinite rs) fits none = absurd cc
  clean at (raw.map (definite w) ps) fits none =
      let n = raw.pair_count ps in
      let parts = none_both (long_head at 5 w n) (pair_departures (head_end at 5 w n) None ps) none in
      let got = pairs_clean (head_end at 5 w n) None ps fits.1 parts.1 in
      ap (λ (w : HeadWidth). raw.map (definite w) ps) (shortest at 5 w n fits.0 parts.0)
      ∙ ap (λ (ps : RawPairs). raw.map (definite (least (raw.pair_count ps))) ps) (got.same ∙ ap canonical_pairs (sym (pairs-listed ps no_pairs got.ascend)))
  clean at (raw.map indefinite ps) fits none = absurd cc
  clean at (raw.tag w n r) fits none =
      let parts = none_both (long_head at 6 w n) (departures (head_end at 6 w n) r) none in
      ap (λ (w : HeadWidth). raw.tag w n r) (shortest at 6 w n fits.0 parts.0) ∙ ap (raw.tag (least n) n) (clean (head_end at 6 w n) r fits.1 parts.1)
  clean at (raw.simple false_item) fits none = refl
  clean at (raw.simple true_item) fits none = refl
  clean at (raw.simple null_item) fits none = refl
  clean at (raw.simple undefined_item) fits none = absurd cc
  clean at (raw.float w bits) fits none = refl

  all_clean : (at : ℕ) (rs : Raws) → AreWellFormed rs → all_departures at rs ≡ [] → rs ≡ canonical_all (values rs)
  all_clean at no_raws fits none = refl
  all_clean at (raw.raw r rs) fits none =
      let parts = none_both (departures at r) (all_departures (at + length (spell r)) rs) none in
      ap₂ raw.raw (clean at r fits.0 parts.0) (all_clean (at + length (spell r)) rs fits.1 parts.1)

  pairs_clean : (at : ℕ) (before : Option Raw) (ps : RawPairs) → ArePairsWellFormed ps → pair_departures at before ps ≡ [] → ArePlain before ps
  pairs_clean at None no_raw_pairs fits none = record { same = refl; firsts = tt; ascend = tt }
  pairs_clean at (Some l) no_raw_pairs fits none = record { same = refl; firsts = tt; ascend = tt }
  pairs_clean at before (raw_pair k v ps) fits none =
      let at_value = at + length (spell k) in
      let at_others = at + length (spell k) + length (spell v) in
      let a = none_both (departures at k) (not_above at_value before k ++ (departures at_value v ++ pair_departures at_others (Some k) ps)) none in
      let b = none_both (not_above at_value before k) (departures at_value v ++ pair_departures at_others (Some k) ps) a.1 in
      let c = none_both (departures at_value v) (pair_departures at_others (Some k) ps) b.1 in
      let others = pairs_clean at_others (Some k) ps fits.2 c.1 in
      record {
        same = ap (λ (l : Raw). raw_pair l v ps) (clean at k fits.0 a.0) ∙ ap₂ (λ (w : Raw) (qs : RawPairs). raw_pair (canonical (value k)) w qs) (clean at_value v fits.1 c.0) others.same;
        firsts = first_above before k v (listed ps) (above at_value before k b.0);
        ascend = (others.firsts, others.ascend);
      }

-- ---- and the canonical item of an ordered value has none

bool_none : (at : ℕ) (b : Bool) → undefined_at at (canonical_bool b) ≡ []
bool_none at false = refl
bool_none at true = refl

-- the key before, of which the item is canonical
abbrev IsCanonicalAbove : Option Raw → Pairs → Type 0
IsCanonicalAbove None ps = Unit {0}
IsCanonicalAbove (Some l) ps = IsBelow (value l) ps

key_none : (end : ℕ) (before : Option Raw) (k v : Val) (ps : Pairs) → IsOrdered k → IsCanonicalAbove before (pair k v ps) → not_above end before (canonical k) ≡ []
key_none end None k v ps ordered is = refl
key_none end (Some l) k v ps ordered is =
    ap (λ (w : Val). by_order (val_cmp (value l) w) [] (end ∷ []) (end ∷ [])) (reads_back k ordered)
    ∙ ap (λ (o : Ordering). by_order o [] (end ∷ []) (end ∷ [])) is

mutual
  unfolding departures canonical

  pub canonical_clean : (at : ℕ) (v : Val) → IsOrdered v → departures at (canonical v) ≡ []
  canonical_clean at null ordered = refl
  canonical_clean at (bool b) ordered = bool_none at b
  canonical_clean at (integer (pos n)) ordered = short-none at 0 n
  canonical_clean at (integer (negsuc n)) ordered = short-none at 1 n
  canonical_clean at (float w bits) ordered = refl
  canonical_clean at (bytes b) ordered = short-none at 2 (length b)
  canonical_clean at (text b) ordered = short-none at 3 (length b)
  canonical_clean at (array vs) ordered =
      let n = raw.count (canonical_all vs) in
      both_none (long_head at 4 (least n) n) (all_departures (head_end at 4 (least n) n) (canonical_all vs)) (short-none at 4 n) (all_canonical_clean (head_end at 4 (least n) n) vs ordered)
  canonical_clean at (map ps) ordered =
      let n = raw.pair_count (canonical_pairs ps) in
      both_none (long_head at 5 (least n) n) (pair_departures (head_end at 5 (least n) n) None (canonical_pairs ps)) (short-none at 5 n) (pairs_canonical_clean (head_end at 5 (least n) n) None ps ordered tt)
  canonical_clean at (tag n v) ordered =
      both_none (long_head at 6 (least n) n) (departures (head_end at 6 (least n) n) (canonical v)) (short-none at 6 n) (canonical_clean (head_end at 6 (least n) n) v ordered)

  all_canonical_clean : (at : ℕ) (vs : Vals) → AreOrdered vs → all_departures at (canonical_all vs) ≡ []
  all_canonical_clean at no_vals ordered = refl
  all_canonical_clean at (val v vs) ordered =
      let more = at + length (spell (canonical v)) in
      both_none (departures at (canonical v)) (all_departures more (canonical_all vs)) (canonical_clean at v ordered.0) (all_canonical_clean more vs ordered.1)

  pairs_canonical_clean : (at : ℕ) (before : Option Raw) (ps : Pairs) → ArePairsOrdered ps → IsCanonicalAbove before ps → pair_departures at before (canonical_pairs ps) ≡ []
  pairs_canonical_clean at before no_pairs ordered is = refl
  pairs_canonical_clean at before (pair k v ps) ordered is =
      let at_value = at + length (spell (canonical k)) in
      let at_others = at + length (spell (canonical k)) + length (spell (canonical v)) in
      let l = canonical k in
      let c = both_none (departures at_value (canonical v)) (pair_departures at_others (Some l) (canonical_pairs ps)) (canonical_clean at_value v ordered.2)
      (pairs_canonical_clean at_others (Some l) ps ordered.3 (subst (λ (w : Val). IsBelow w ps) (sym (reads_back k ordered.1)) ordered.0)) in
      let b = both_none (not_above at_value before l) (departures at_value (canonical v) ++ pair_departures at_others (Some l) (canonical_pairs ps)) (key_none at_value before k v ps ordered.1 is) c in
      both_none (departures at l) (not_above at_value before l ++ (departures at_value (canonical v) ++ pair_departures at_others (Some l) (canonical_pairs ps))) (canonical_clean at k ordered.1) b
