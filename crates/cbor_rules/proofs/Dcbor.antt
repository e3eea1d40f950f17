-- An item keeps dCBOR's rules exactly where it is the deterministic item of a value whose numbers are
-- reduced.
use Rattle.std.proofs.Common.{◌∷◌, ◌≡◌, ◌∙◌, ℕ, suc, ◌+◌, ◌^◌, true, false, pos, negsuc, ℤ, List, []}
use Rattle.std.proofs.Common.{length, Ordering, Less, Equal, Greater, refl, sym, ap, subst}
use Rattle.std.proofs.lemmas.Bool.{leb-false, lt-leb}
use Rattle.std.specs.Prelude.{◌==◌, nat_lt, is_some, Option, Some, None}
use Rattle.cbor_model.specs.Order.{val_cmp}
use Rattle.cbor_model.specs.Plain.{Val, null, bool, integer, float, bytes, text, array, map, tag}
use Rattle.cbor_model.specs.Plain.{Vals, no_vals, val, Pairs, no_pairs, pair}
use Rattle.cbor_model.specs.Raw as raw
use Rattle.cbor_model.specs.Raw.{FloatWidth, definite, indefinite, Raw, Raws, no_raws, RawPairs, no_raw_pairs, raw_pair}
use Rattle.cbor_model.specs.Raw.{false_item, true_item, null_item, undefined_item}
use Rattle.cbor_model.specs.Spelling.{spell}
use Rattle.cbor_model.specs.Value.{value, values, pairs, put, by_order}
use Rattle.cbor_model.specs.FiniteMap.{put_all}
use Rattle.cbor_model.specs.Canonical.{canonical, canonical_all, canonical_pairs}
use Rattle.cbor_value.specs.Floats.{number}
use Rattle.cbor_value.specs.Floats.{number_of as number_of_float}
use Rattle.cbor_value.specs.Shortest.{shortest}
use Rattle.cbor_value.specs.declared.Float.{Float}
use Rattle.cbor_value.specs.declared.Float.TheVariants.{Half, Single, Double}
use Rattle.cbor_forms.specs.Reduced.{integer_of, integer_or, IsReducedInteger}
use Rattle.cbor_forms.specs.Shortened.{shortened, reduced, rewritten, all_rewritten, pairs_rewritten}
use Rattle.cbor_forms.specs.Shortened.{Allows, AllowsAll, AllowsPairs}
use Rattle.cbor_forms.specs.declared.values.Form.TheVariants.{Dcbor}
use Rattle.cbor_rules.specs.Features.{Feature, number as number_of, indefinite_length, simple_item}
use Rattle.cbor_rules.specs.Features.{float_bits, key, nth_item, place, head_end, length_end, features}
use Rattle.cbor_rules.specs.Features.{all_features, open_features, pair_features}
use Rattle.cbor_rules.specs.Presets as presets
use Rattle.cbor_rules.specs.Presets.{WrittenIsAccepted, AcceptedIsWritten, IsDcborOf}
use Rattle.cbor_rules.specs.Presets.{HasReducedNumbers, HaveReducedNumbers, PairsHaveReducedNumbers}
use Rattle.cbor_rules.specs.Presets.{HasShortestFloats, HaveShortestFloats, PairsHaveShortestFloats}
use Rattle.cbor_rules.specs.Rules.{only, breaks, floor}
use Rattle.cbor_rules.specs.declared.settings.Rules.{Rules}
use Rattle.cbor_rules.specs.declared.settings.Rule.TheVariants.{ShortestHeads, DefiniteLengths}
use Rattle.cbor_rules.specs.declared.settings.Rule.TheVariants.{PlainKeys, AscendingKeys, UniqueKeys, OneNan}
use Rattle.cbor_rules.specs.declared.settings.Rule.TheVariants.{ReducedNumbers, ShortestFloats}
use Rattle.cbor_rules.specs.declared.settings.Rule.TheVariants.{NoUndefined, NoTags, MostItems, MostPairs, MostBytes}
use Rattle.cbor_rules.proofs.Canonical as canonical
use Rattle.cbor_rules.proofs.Canonical.{IsFine, AreFine, kept_fine, fine_kept, first_fine, rest_fine}
use Rattle.cbor_rules.proofs.Canonical.{both_fine, and_false, items_free, pairs_free, bytes_free}
use Rattle.cbor_rules.proofs.Deterministic as deterministic
use Rattle.cbor_rules.proofs.Deterministic.{ApartFloats, fine_too, fine_both, float_shortened}
use Rattle.cbor_rules.proofs.Deterministic.{put_all_short}
use Rattle.cbor_rules.proofs.Floats.{shortest_is}

-- the rule about integers alone
abbrev reduced_only : Rules
reduced_only = record presets.any_item { reduced_numbers = true }

abbrev others : Rules
others = presets.deterministic

-- ---- the rules are those of the deterministic form, and that one

is_deterministic : (f : Feature) → IsFine presets.dcbor f → IsFine others f
is_deterministic f fine ShortestHeads = fine ShortestHeads
is_deterministic f fine DefiniteLengths = fine DefiniteLengths
is_deterministic f fine PlainKeys = fine PlainKeys
is_deterministic f fine AscendingKeys = fine AscendingKeys
is_deterministic f fine UniqueKeys = fine UniqueKeys
is_deterministic (number_of m w n) fine ReducedNumbers = refl
is_deterministic (float_bits w bits) fine ReducedNumbers = refl
is_deterministic _ fine ReducedNumbers = refl
is_deterministic f fine ShortestFloats = fine ShortestFloats
is_deterministic f fine OneNan = fine OneNan
is_deterministic f fine NoUndefined = fine NoUndefined
is_deterministic f fine NoTags = fine NoTags
is_deterministic f fine MostItems = fine MostItems
is_deterministic f fine MostPairs = fine MostPairs
is_deterministic f fine MostBytes = fine MostBytes

is_dcbor : (f : Feature) → IsFine others f → IsFine reduced_only f → IsFine presets.dcbor f
is_dcbor f one other ShortestHeads = one ShortestHeads
is_dcbor f one other DefiniteLengths = one DefiniteLengths
is_dcbor f one other PlainKeys = one PlainKeys
is_dcbor f one other AscendingKeys = one AscendingKeys
is_dcbor f one other UniqueKeys = one UniqueKeys
is_dcbor f one other ReducedNumbers = other ReducedNumbers
is_dcbor f one other ShortestFloats = one ShortestFloats
is_dcbor f one other OneNan = one OneNan
is_dcbor f one other NoUndefined = one NoUndefined
is_dcbor f one other NoTags = one NoTags
is_dcbor f one other MostItems = one MostItems
is_dcbor f one other MostPairs = one MostPairs
is_dcbor f one other MostBytes = one MostBytes

-- that rule is kept where it is on
reduced_fine : (f : Feature) → breaks (only reduced_only) ReducedNumbers f ≡ false → IsFine reduced_only f
reduced_fine f one ReducedNumbers = one
reduced_fine f one MostItems = items_free (only reduced_only) f refl
reduced_fine f one MostPairs = pairs_free (only reduced_only) f refl
reduced_fine f one MostBytes = bytes_free (only reduced_only) f refl
reduced_fine (number_of m w n) one ShortestHeads = and_false (nat_lt n (floor w))
reduced_fine _ one ShortestHeads = refl
reduced_fine (number_of m w n) one NoTags = and_false (m == 6)
reduced_fine _ one NoTags = refl
reduced_fine indefinite_length one DefiniteLengths = refl
reduced_fine _ one DefiniteLengths = refl
reduced_fine (key earlier k) one PlainKeys = refl
reduced_fine _ one PlainKeys = refl
reduced_fine (key earlier k) one AscendingKeys = refl
reduced_fine _ one AscendingKeys = refl
reduced_fine (key earlier k) one UniqueKeys = refl
reduced_fine _ one UniqueKeys = refl
reduced_fine (float_bits w bits) one ShortestFloats = refl
reduced_fine _ one ShortestFloats = refl
reduced_fine (float_bits w bits) one OneNan = refl
reduced_fine _ one OneNan = refl
reduced_fine (simple_item undefined_item) one NoUndefined = refl
reduced_fine (simple_item _) one NoUndefined = refl
reduced_fine _ one NoUndefined = refl

is_reduced : (f : Feature) → IsFine presets.dcbor f → IsFine reduced_only f
is_reduced f fine = reduced_fine f (fine ReducedNumbers)

-- ---- what keeps that rule

put_reduced : (k v : Val) (ps : Pairs) → HasReducedNumbers k → HasReducedNumbers v
    → PairsHaveReducedNumbers ps → PairsHaveReducedNumbers (put k v ps)
put_reduced k v no_pairs name content all = (name, content, tt)
put_reduced k v (pair l w ps) name content all =
    by (val_cmp k l) (put_reduced k v ps name content all.2)
  where
    by : (o : Ordering) → PairsHaveReducedNumbers (put k v ps)
        → PairsHaveReducedNumbers
        (by_order o (pair k v (pair l w ps)) (pair k v ps) (pair l w (put k v ps)))
    by Less rest = (name, content, all)
    by Equal rest = (name, content, all.2)
    by Greater rest = (all.0, all.1, rest)

simple_reduced : (s : raw.Simple) → HasReducedNumbers (value (raw.simple s))
unfolding value
simple_reduced false_item = tt
simple_reduced true_item = tt
simple_reduced null_item = tt
simple_reduced undefined_item = tt

no_integer : (o : Option ℤ) → is_some o ≡ false → o ≡ None
no_integer None is = refl
no_integer (Some z) is = absurd cc

mutual
  unfolding features value

  -- has its value's numbers reduced
  kept_numbers : (at : ℕ) (r : Raw) → AreFine reduced_only (features at r)
      → HasReducedNumbers (value r)
  kept_numbers at (raw.unsigned w n) fine = tt
  kept_numbers at (raw.negative w n) fine = leb-false (2 ^ 63) n (fine.0 ReducedNumbers)
  kept_numbers at (raw.bytes c) fine = tt
  kept_numbers at (raw.text c) fine = tt
  kept_numbers at (raw.bytes_chunks cs) fine = tt
  kept_numbers at (raw.text_chunks cs) fine = tt
  kept_numbers at (raw.array (definite w) rs) fine =
      all_kept_numbers (head_end at 4 w (raw.count rs)) rs fine.1
  kept_numbers at (raw.array indefinite rs) fine = open_kept_numbers (suc at) 0 rs fine.1
  kept_numbers at (raw.map l ps) fine =
      pairs_kept_numbers (length_end at 5 l (raw.pair_count ps)) [] ps no_pairs fine.1 tt
  kept_numbers at (raw.tag w n r) fine = kept_numbers (head_end at 6 w n) r fine.1
  kept_numbers at (raw.simple s) fine = simple_reduced s
  kept_numbers at (raw.float w bits) fine =
      no_integer (integer_of (number w bits)) (fine.0 ReducedNumbers)

  all_kept_numbers : (at : ℕ) (rs : Raws) → AreFine reduced_only (all_features at rs)
      → HaveReducedNumbers (values rs)
  all_kept_numbers at no_raws fine = tt
  all_kept_numbers at (raw.raw r rs) fine =
      let more = at + length (spell r) in (
        kept_numbers at r (first_fine reduced_only (features at r) (all_features more rs) fine),
        all_kept_numbers more rs
            (rest_fine reduced_only (features at r) (all_features more rs) fine),
      )

  open_kept_numbers : (at earlier : ℕ) (rs : Raws)
      → AreFine reduced_only (open_features at earlier rs) → HaveReducedNumbers (values rs)
  open_kept_numbers at earlier no_raws fine = tt
  open_kept_numbers at earlier (raw.raw r rs) fine =
      let more = at + length (spell r) in
      let behind = place more (nth_item earlier) ∷ open_features more (earlier + 1) rs in (
        kept_numbers at r (first_fine reduced_only (features at r) behind fine),
        open_kept_numbers more (earlier + 1) rs
            (rest_fine reduced_only (features at r) behind fine).1,
      )

  pairs_kept_numbers : (at : ℕ) (earlier : List (List ℕ)) (ps : RawPairs) (onto : Pairs)
      → AreFine reduced_only (pair_features at earlier ps) → PairsHaveReducedNumbers onto
      → PairsHaveReducedNumbers (pairs ps onto)
  pairs_kept_numbers at earlier no_raw_pairs onto fine all = all
  pairs_kept_numbers at earlier (raw_pair k v ps) onto fine all =
      let here = at + length (spell k) in
      let there = at + length (spell k) + length (spell v) in
      let more = pair_features there (spell k ∷ earlier) ps in
      let a = rest_fine reduced_only (features at k) _ fine in
      pairs_kept_numbers there (spell k ∷ earlier) ps (put (value k) (value v) onto)
      (rest_fine reduced_only (features here v) more a.1)
      (put_reduced (value k) (value v) onto
      (kept_numbers at k (first_fine reduced_only (features at k) _ fine))
      (kept_numbers here v (first_fine reduced_only (features here v) more a.1)) all)

-- ---- what keeps it

mutual
  unfolding features canonical

  numbers_kept : (at : ℕ) (v : Val) → HasReducedNumbers v
      → AreFine reduced_only (features at (canonical v))
  numbers_kept at null is = (reduced_fine _ refl, tt)
  numbers_kept at (bool b) is = (reduced_fine _ refl, tt)
  numbers_kept at (integer (pos n)) is = (reduced_fine _ refl, tt)
  numbers_kept at (integer (negsuc n)) is = (reduced_fine _ (lt-leb (2 ^ 63) n is), tt)
  numbers_kept at (float w bits) is = (reduced_fine _ (ap is_some is), tt)
  numbers_kept at (bytes b) is = (reduced_fine _ refl, tt)
  numbers_kept at (text b) is = (reduced_fine _ refl, tt)
  numbers_kept at (array vs) is = (reduced_fine _ refl, all_numbers_kept _ vs is)
  numbers_kept at (map ps) is = (reduced_fine _ refl, pairs_numbers_kept _ [] ps is)
  numbers_kept at (tag n v) is = (reduced_fine _ refl, numbers_kept _ v is)

  all_numbers_kept : (at : ℕ) (vs : Vals) → HaveReducedNumbers vs
      → AreFine reduced_only (all_features at (canonical_all vs))
  all_numbers_kept at no_vals is = tt
  all_numbers_kept at (val v vs) is =
      let more = at + length (spell (canonical v)) in
      both_fine reduced_only (features at (canonical v)) (all_features more (canonical_all vs))
      (numbers_kept at v is.0) (all_numbers_kept more vs is.1)

  pairs_numbers_kept : (at : ℕ) (earlier : List (List ℕ)) (ps : Pairs) → PairsHaveReducedNumbers ps
      → AreFine reduced_only (pair_features at earlier (canonical_pairs ps))
  pairs_numbers_kept at earlier no_pairs is = tt
  pairs_numbers_kept at earlier (pair k v ps) is =
      let name = spell (canonical k) in
      let here = at + length name in
      let there = at + length name + length (spell (canonical v)) in
      both_fine reduced_only (features at (canonical k)) _ (numbers_kept at k is.0) (
        reduced_fine (key earlier name) refl,
        both_fine reduced_only (features here (canonical v))
            (pair_features there (name ∷ earlier) (canonical_pairs ps)) (numbers_kept here v is.1)
            (pairs_numbers_kept there (name ∷ earlier) ps is.2),
      )

-- ---- what is reduced

abbrev Once : Type 0
Once = (v : Val) → shortened (shortened v) ≡ shortened v

abbrev ReducedOnce : Type 0
ReducedOnce = (v : Val) → reduced (reduced v) ≡ reduced v

abbrev InRange : Type 0
InRange = (a : Float) (z : ℤ) → integer_of (number_of_float a) ≡ Some z → IsReducedInteger z

-- both of them
abbrev IsDone : Val → Type 0
IsDone v = HasReducedNumbers v × HasShortestFloats v

abbrev AreDone : Pairs → Type 0
AreDone ps = PairsHaveReducedNumbers ps × PairsHaveShortestFloats ps

put_all_reduced : (ps onto : Pairs) → PairsHaveReducedNumbers ps → PairsHaveReducedNumbers onto
    → PairsHaveReducedNumbers (put_all ps onto)
put_all_reduced no_pairs onto all before = before
put_all_reduced (pair k v ps) onto all before =
    put_all_reduced ps (put k v onto) all.2 (put_reduced k v onto all.0 all.1 before)

module _ (once : Once) (reduced_once : ReducedOnce) (in_range : InRange) where
  in_range_of : (w : FloatWidth) (bits : ℕ) (z : ℤ) → integer_of (number w bits) ≡ Some z
      → IsReducedInteger z
  in_range_of raw.half bits z is = in_range (Half bits) z is
  in_range_of raw.single bits z is = in_range (Single bits) z is
  in_range_of raw.double bits z is = in_range (Double bits) z is

  -- a float that stays is no integer
  stays : (w : FloatWidth) (bits : ℕ) (o : Option ℤ)
      → integer_or (shortest (number w bits)) o ≡ float w bits → o ≡ None
  stays w bits None is = refl
  stays w bits (Some z) is = absurd cc

  shortest_reduced : (w : FloatWidth) (bits : ℕ) → integer_of (number w bits) ≡ None
      → HasReducedNumbers (shortest (number w bits))
  unfolding rewritten
  shortest_reduced w bits none =
      let x = number w bits in
      let s = shortest_is x in
      let same : reduced (float w bits) ≡ float s.width s.bits =
      ap (integer_or (shortest x)) none ∙ s.is in
      subst HasReducedNumbers (sym s.is)
      (stays s.width s.bits (integer_of (number s.width s.bits))
      (ap reduced (sym same) ∙ reduced_once (float w bits) ∙ same))

  number_done : (w : FloatWidth) (bits : ℕ) (o : Option ℤ) → integer_of (number w bits) ≡ o
      → IsDone (integer_or (shortest (number w bits)) o)
  number_done w bits (Some z) is = (in_range_of w bits z is, tt)
  number_done w bits None is = (shortest_reduced w bits is, float_shortened once w bits)

  mutual
    unfolding rewritten

    pub all_reduced : (v : Val) → Allows Dcbor v → IsDone (reduced v)
    all_reduced null is = (tt, tt)
    all_reduced (bool b) is = (tt, tt)
    all_reduced (integer z) is = (is, tt)
    all_reduced (float w bits) is = number_done w bits (integer_of (number w bits)) refl
    all_reduced (bytes b) is = (tt, tt)
    all_reduced (text b) is = (tt, tt)
    all_reduced (array vs) is = items_reduced vs is
    all_reduced (map ps) is =
        let all = pairs_reduced ps is.1 in
        let qs = pairs_rewritten Dcbor ps in
        (put_all_reduced qs no_pairs all.0 tt, put_all_short once qs no_pairs all.1 tt)
    all_reduced (tag n v) is = all_reduced v is

    items_reduced : (vs : Vals) → AllowsAll Dcbor vs
        → HaveReducedNumbers (all_rewritten Dcbor vs) × HaveShortestFloats (all_rewritten Dcbor vs)
    items_reduced no_vals is = (tt, tt)
    items_reduced (val v vs) is =
        let one = all_reduced v is.0 in
        let all = items_reduced vs is.1 in ((one.0, all.0), (one.1, all.1))

    pairs_reduced : (ps : Pairs) → AllowsPairs Dcbor ps → AreDone (pairs_rewritten Dcbor ps)
    pairs_reduced no_pairs is = (tt, tt)
    pairs_reduced (pair k v ps) is =
        let name = all_reduced k is.0 in
        let content = all_reduced v is.1 in
        let all = pairs_reduced ps is.2 in
        ((name.0, content.0, all.0), (name.1, content.1, all.1))

-- ---- the laws

pub accepted_is_written : AcceptedIsWritten presets.dcbor IsDcborOf
accepted_is_written bs v short spelt keeps =
    let r = spelt.item in
    let fine = kept_fine presets.dcbor r keeps in (
      subst HasReducedNumbers (sym spelt.valued)
          (kept_numbers 0 r (fine_too presets.dcbor reduced_only is_reduced (features 0 r) fine)),
      deterministic.accepted_is_written bs v short spelt
          (fine_kept others r (fine_too presets.dcbor others is_deterministic (features 0 r) fine)),
    )

module _ (apart : ApartFloats) where
  pub written_is_accepted : WrittenIsAccepted presets.dcbor IsDcborOf
  written_is_accepted bs v short spelt is =
      let r = spelt.item in
      let same = canonical.canonical_item bs v short spelt is.1.1 in
      fine_kept presets.dcbor r
      (fine_both others reduced_only presets.dcbor is_dcbor (features 0 r)
      (kept_fine others r (deterministic.written_is_accepted apart bs v short spelt is.1))
      (subst (λ (r : Raw). AreFine reduced_only (features 0 r)) (sym same)
      (numbers_kept 0 v is.0)))
