-- An item keeps the deterministic rules exactly where it is the canonical item of its value, with floats at their shortest.
use Rattle.std.proofs.Common.{false, pos, negsuc, ◌≡◌, ◌∙◌, ℕ, suc, ◌+◌, true, List, [], ◌∷◌, length, Ordering, Less, Equal, Greater, refl, sym, ap, subst}
use Rattle.std.specs.Prelude.{◌==◌, ◌↔◌, nat_lt}
use Rattle.cbor_model.specs.Order.{val_cmp}
use Rattle.cbor_model.specs.Plain.{Val, null, bool, integer, float, bytes, text, array, map, tag, Vals, no_vals, val, Pairs, no_pairs, pair}
use Rattle.cbor_model.specs.Raw as raw
use Rattle.cbor_model.specs.Raw.{FloatWidth, half, single, double, definite, indefinite, Raw, Raws, no_raws, RawPairs, no_raw_pairs, raw_pair, false_item, true_item, null_item, undefined_item, IsWellFormed, AreWellFormed, ArePairsWellFormed}
use Rattle.cbor_model.specs.Spelling.{spell}
use Rattle.cbor_model.specs.Value.{value, values, pairs, put, by_order}
use Rattle.cbor_model.specs.FiniteMap.{put_all}
use Rattle.cbor_model.specs.Canonical.{canonical, canonical_all, canonical_pairs}
use Rattle.cbor_value.specs.Floats.{number, half_number}
use Rattle.cbor_value.specs.Floats.{number_of as number_of_float}
use Rattle.cbor_value.specs.Shortest.{shortest}
use Rattle.cbor_value.specs.View.{float_view}
use Rattle.cbor_value.specs.declared.Float.{Float}
use Rattle.cbor_value.specs.declared.Float.TheVariants.{Half}
use Rattle.cbor_forms.specs.Shortened.{shortened, rewritten, all_rewritten, pairs_rewritten}
use Rattle.cbor_forms.specs.declared.values.Form.TheVariants.{Core}
use Rattle.cbor_rules.specs.Features.{Feature, number as number_of, indefinite_length, simple_item, float_bits, key, nth_item, chunk_to, Place, place, head_end, length_end, features, all_features, open_features, pair_features}
use Rattle.cbor_rules.specs.Presets as presets
use Rattle.cbor_rules.specs.Presets.{WrittenIsAccepted, AcceptedIsWritten, IsDeterministicOf, IsShortest, HasShortestFloats, HaveShortestFloats, PairsHaveShortestFloats, ShortenedHasShortestFloats}
use Rattle.cbor_rules.specs.Rules.{only, breaks, floor}
use Rattle.cbor_rules.specs.declared.settings.Rules.{Rules}
use Rattle.cbor_rules.specs.declared.settings.KeyOrder.{KeyOrder}
use Rattle.cbor_rules.specs.declared.settings.KeyOrder.TheVariants.{Bytewise}
use Rattle.cbor_rules.specs.declared.settings.Rule.TheVariants.{ShortestHeads, DefiniteLengths, PlainKeys, AscendingKeys, UniqueKeys, ReducedNumbers, ShortestFloats, OneNan, NoUndefined, NoTags, MostItems, MostPairs, MostBytes}
use Rattle.cbor_rules.proofs.Canonical as canonical
use Rattle.cbor_rules.proofs.Canonical.{IsFine, AreFine, by_keys, kept_fine, fine_kept, first_fine, rest_fine, both_fine, and_false, items_free, pairs_free, bytes_free}
use Rattle.cbor_rules.proofs.Floats.{shortest_is, shortest_nan, kept_shortest, shortest_narrow, shortest_one}

-- the rules about floats alone
abbrev pub floats_only : Rules
floats_only = record presets.any_item { shortest_floats = true; one_nan = true }

-- ---- rules by some and others

module _ (rules others : Rules) where
  pub fine_too : ((f : Feature) → IsFine rules f → IsFine others f) → (ps : List Place) → AreFine rules ps → AreFine others ps
  fine_too each [] all = tt
  fine_too each (p ∷ ps) all = (each p.feature all.0, fine_too each ps all.1)

  pub fine_both : (all : Rules) → ((f : Feature) → IsFine rules f → IsFine others f → IsFine all f) → (ps : List Place) → AreFine rules ps → AreFine others ps → AreFine all ps
  fine_both all each [] one other = tt
  fine_both all each (p ∷ ps) one other = (each p.feature one.0 other.0, fine_both all each ps one.1 other.1)

-- the rules of a deterministic form, with keys in this order
abbrev pub with_keys : KeyOrder → Rules
with_keys order = record presets.deterministic { keys = order }

-- all of them are the canonical ones and those about floats
pub is_canonical : (order : KeyOrder) (f : Feature) → IsFine (with_keys order) f → IsFine (by_keys order) f
is_canonical order f fine ShortestHeads = fine ShortestHeads
is_canonical order f fine DefiniteLengths = fine DefiniteLengths
is_canonical order f fine PlainKeys = fine PlainKeys
is_canonical order f fine AscendingKeys = fine AscendingKeys
is_canonical order f fine UniqueKeys = fine UniqueKeys
is_canonical order f fine NoUndefined = fine NoUndefined
is_canonical order f fine NoTags = fine NoTags
is_canonical order f fine MostItems = items_free (only (by_keys order)) f refl
is_canonical order f fine MostPairs = pairs_free (only (by_keys order)) f refl
is_canonical order f fine MostBytes = bytes_free (only (by_keys order)) f refl
is_canonical order (number_of m w n) fine ReducedNumbers = refl
is_canonical order (float_bits w bits) fine ReducedNumbers = refl
is_canonical order _ fine ReducedNumbers = refl
is_canonical order (float_bits w bits) fine ShortestFloats = refl
is_canonical order _ fine ShortestFloats = refl
is_canonical order (float_bits w bits) fine OneNan = refl
is_canonical order _ fine OneNan = refl

pub is_all : (order : KeyOrder) (f : Feature) → IsFine (by_keys order) f → IsFine floats_only f → IsFine (with_keys order) f
is_all order f one floats ShortestHeads = one ShortestHeads
is_all order f one floats DefiniteLengths = one DefiniteLengths
is_all order f one floats PlainKeys = one PlainKeys
is_all order f one floats AscendingKeys = one AscendingKeys
is_all order f one floats UniqueKeys = one UniqueKeys
is_all order f one floats ReducedNumbers = floats ReducedNumbers
is_all order f one floats ShortestFloats = floats ShortestFloats
is_all order f one floats OneNan = floats OneNan
is_all order f one floats NoUndefined = one NoUndefined
is_all order f one floats NoTags = one NoTags
is_all order f one floats MostItems = items_free (only (with_keys order)) f refl
is_all order f one floats MostPairs = pairs_free (only (with_keys order)) f refl
is_all order f one floats MostBytes = bytes_free (only (with_keys order)) f refl

-- the rules about floats are kept where the two that are on are
floats_fine : (f : Feature) → breaks (only floats_only) ShortestFloats f ≡ false → breaks (only floats_only) OneNan f ≡ false → IsFine floats_only f
floats_fine f short one ShortestFloats = short
floats_fine f short one OneNan = one
floats_fine f short one MostItems = items_free (only floats_only) f refl
floats_fine f short one MostPairs = pairs_free (only floats_only) f refl
floats_fine f short one MostBytes = bytes_free (only floats_only) f refl
floats_fine (number_of m w n) short one ReducedNumbers = refl
floats_fine (float_bits w bits) short one ReducedNumbers = refl
floats_fine _ short one ReducedNumbers = refl
floats_fine (number_of m w n) short one ShortestHeads = and_false (nat_lt n (floor w))
floats_fine _ short one ShortestHeads = refl
floats_fine (number_of m w n) short one NoTags = and_false (m == 6)
floats_fine _ short one NoTags = refl
floats_fine indefinite_length short one DefiniteLengths = refl
floats_fine _ short one DefiniteLengths = refl
floats_fine (key earlier k) short one PlainKeys = refl
floats_fine _ short one PlainKeys = refl
floats_fine (key earlier k) short one AscendingKeys = refl
floats_fine _ short one AscendingKeys = refl
floats_fine (key earlier k) short one UniqueKeys = refl
floats_fine _ short one UniqueKeys = refl
floats_fine (simple_item undefined_item) short one NoUndefined = refl
floats_fine (simple_item _) short one NoUndefined = refl
floats_fine _ short one NoUndefined = refl

pub is_floats : (order : KeyOrder) (f : Feature) → IsFine (with_keys order) f → IsFine floats_only f
is_floats order f fine = floats_fine f (fine ShortestFloats) (fine OneNan)

-- only floats break any of the rules about them
abbrev IsFloat : Feature → Type 0
IsFloat (float_bits w bits) = Unit {0}
IsFloat _ = ⊥

pub other_fine : (f : Feature) → (IsFloat f → ⊥) → IsFine floats_only f
other_fine (float_bits w bits) other = absurd (other tt)
other_fine (number_of m w n) other = floats_fine (number_of m w n) refl refl
other_fine indefinite_length other = floats_fine indefinite_length refl refl
other_fine (simple_item s) other = floats_fine (simple_item s) refl refl
other_fine (key earlier k) other = floats_fine (key earlier k) refl refl
other_fine (nth_item earlier) other = floats_fine (nth_item earlier) refl refl
other_fine (chunk_to n) other = floats_fine (chunk_to n) refl refl

-- ---- what keeps the rules about floats

put_short : (k v : Val) (ps : Pairs) → HasShortestFloats k → HasShortestFloats v → PairsHaveShortestFloats ps → PairsHaveShortestFloats (put k v ps)
put_short k v no_pairs name content all = (name, content, tt)
put_short k v (pair l w ps) name content all = by (val_cmp k l) (put_short k v ps name content all.2)
  where
    by : (o : Ordering) → PairsHaveShortestFloats (put k v ps) → PairsHaveShortestFloats (by_order o (pair k v (pair l w ps)) (pair k v ps) (pair l w (put k v ps)))
    by Less others = (name, content, all)
    by Equal others = (name, content, all.2)
    by Greater others = (all.0, all.1, others)

simple_short : (s : raw.Simple) → HasShortestFloats (value (raw.simple s))
unfolding value
simple_short false_item = tt
simple_short true_item = tt
simple_short null_item = tt
simple_short undefined_item = tt

mutual
  unfolding features value

  -- has its value's floats at their shortest
  pub kept_floats : (at : ℕ) (r : Raw) → IsWellFormed r → AreFine floats_only (features at r) → HasShortestFloats (value r)
  kept_floats at (raw.unsigned w n) fits fine = tt
  kept_floats at (raw.negative w n) fits fine = tt
  kept_floats at (raw.bytes c) fits fine = tt
  kept_floats at (raw.text c) fits fine = tt
  kept_floats at (raw.bytes_chunks cs) fits fine = tt
  kept_floats at (raw.text_chunks cs) fits fine = tt
  kept_floats at (raw.array (definite w) rs) fits fine = all_kept_floats (head_end at 4 w (raw.count rs)) rs fits.1 fine.1
  kept_floats at (raw.array indefinite rs) fits fine = open_kept_floats (suc at) 0 rs fits.1 fine.1
  kept_floats at (raw.map l ps) fits fine = pairs_kept_floats (length_end at 5 l (raw.pair_count ps)) [] ps no_pairs fits.1 fine.1 tt
  kept_floats at (raw.tag w n r) fits fine = kept_floats (head_end at 6 w n) r fits.1 fine.1
  kept_floats at (raw.simple s) fits fine = simple_short s
  kept_floats at (raw.float w bits) fits fine = kept_shortest w bits fits (fine.0 ShortestFloats) (fine.0 OneNan)

  all_kept_floats : (at : ℕ) (rs : Raws) → AreWellFormed rs → AreFine floats_only (all_features at rs) → HaveShortestFloats (values rs)
  all_kept_floats at no_raws fits fine = tt
  all_kept_floats at (raw.raw r rs) fits fine =
      let more = at + length (spell r) in
      (kept_floats at r fits.0 (first_fine floats_only (features at r) (all_features more rs) fine), all_kept_floats more rs fits.1 (rest_fine floats_only (features at r) (all_features more rs) fine))

  open_kept_floats : (at earlier : ℕ) (rs : Raws) → AreWellFormed rs → AreFine floats_only (open_features at earlier rs) → HaveShortestFloats (values rs)
  open_kept_floats at earlier no_raws fits fine = tt
  open_kept_floats at earlier (raw.raw r rs) fits fine =
      let more = at + length (spell r) in
      let others = open_features more (earlier + 1) rs in
      let behind = place more (nth_item earlier) ∷ others in
      (kept_floats at r fits.0 (first_fine floats_only (features at r) behind fine), open_kept_floats more (earlier + 1) rs fits.1 (rest_fine floats_only (features at r) behind fine).1)

  pairs_kept_floats : (at : ℕ) (earlier : List (List ℕ)) (ps : RawPairs) (onto : Pairs) → ArePairsWellFormed ps → AreFine floats_only (pair_features at earlier ps) → PairsHaveShortestFloats onto → PairsHaveShortestFloats (pairs ps onto)
  pairs_kept_floats at earlier no_raw_pairs onto fits fine all = all
  pairs_kept_floats at earlier (raw_pair k v ps) onto fits fine all =
      let here = at + length (spell k) in
      let there = at + length (spell k) + length (spell v) in
      let others = pair_features there (spell k ∷ earlier) ps in
      let a = rest_fine floats_only (features at k) _ fine in
      pairs_kept_floats there (spell k ∷ earlier) ps (put (value k) (value v) onto) fits.2 (rest_fine floats_only (features here v) others a.1)
      (put_short (value k) (value v) onto
      (kept_floats at k fits.0 (first_fine floats_only (features at k) _ fine))
      (kept_floats here v fits.1 (first_fine floats_only (features here v) others a.1)) all)

-- ---- what keeps them

abbrev pub ApartFloats : Type 0
ApartFloats = (a b : ℕ) → shortest (half_number a) ≡ shortest (half_number b) → half_number a ≡ half_number b

module _ (apart : ApartFloats) where
  pub float_fine : (w : FloatWidth) (bits : ℕ) → IsShortest w bits → IsFine floats_only (float_bits w bits)
  float_fine w bits is ShortestFloats = shortest_narrow w bits is
  float_fine w bits is OneNan = shortest_one apart w bits is
  float_fine w bits is ReducedNumbers = refl
  float_fine w bits is ShortestHeads = refl
  float_fine w bits is DefiniteLengths = refl
  float_fine w bits is PlainKeys = refl
  float_fine w bits is AscendingKeys = refl
  float_fine w bits is UniqueKeys = refl
  float_fine w bits is NoUndefined = refl
  float_fine w bits is NoTags = refl
  float_fine w bits is MostItems = refl
  float_fine w bits is MostPairs = refl
  float_fine w bits is MostBytes = refl

  mutual
    unfolding features canonical

    pub floats_kept : (at : ℕ) (v : Val) → HasShortestFloats v → AreFine floats_only (features at (canonical v))
    floats_kept at null short = (other_fine _ (λ is. is), tt)
    floats_kept at (bool b) short = (other_fine _ (λ is. is), tt)
    floats_kept at (integer (pos n)) short = (other_fine _ (λ is. is), tt)
    floats_kept at (integer (negsuc n)) short = (other_fine _ (λ is. is), tt)
    floats_kept at (float w bits) short = (float_fine w bits short, tt)
    floats_kept at (bytes b) short = (other_fine _ (λ is. is), tt)
    floats_kept at (text b) short = (other_fine _ (λ is. is), tt)
    floats_kept at (array vs) short = (other_fine _ (λ is. is), all_floats_kept _ vs short)
    floats_kept at (map ps) short = (other_fine _ (λ is. is), pairs_floats_kept _ [] ps short)
    floats_kept at (tag n v) short = (other_fine _ (λ is. is), floats_kept _ v short)

    all_floats_kept : (at : ℕ) (vs : Vals) → HaveShortestFloats vs → AreFine floats_only (all_features at (canonical_all vs))
    all_floats_kept at no_vals short = tt
    all_floats_kept at (val v vs) short =
        let more = at + length (spell (canonical v)) in
        both_fine floats_only (features at (canonical v)) (all_features more (canonical_all vs)) (floats_kept at v short.0) (all_floats_kept more vs short.1)

    pairs_floats_kept : (at : ℕ) (earlier : List (List ℕ)) (ps : Pairs) → PairsHaveShortestFloats ps → AreFine floats_only (pair_features at earlier (canonical_pairs ps))
    pairs_floats_kept at earlier no_pairs short = tt
    pairs_floats_kept at earlier (pair k v ps) short =
        let name = spell (canonical k) in
        let here = at + length name in
        let there = at + length name + length (spell (canonical v)) in
        both_fine floats_only (features at (canonical k)) _ (floats_kept at k short.0) (
          other_fine (key earlier name) (λ is. is),
          both_fine floats_only (features here (canonical v)) (pair_features there (name ∷ earlier) (canonical_pairs ps)) (floats_kept here v short.1) (pairs_floats_kept there (name ∷ earlier) ps short.2),
        )

-- ---- what is shortened

module _ (once : (v : Val) → shortened (shortened v) ≡ shortened v) where
  shortest_of : (w : FloatWidth) (bits : ℕ) → shortest (number w bits) ≡ float w bits → IsShortest w bits
  shortest_of half bits is = λ not_a_number.
      let same : float half 0x7e00 ≡ float half bits = sym (ap shortest not_a_number ∙ shortest_nan) ∙ is in cc
  shortest_of single bits is = is
  shortest_of double bits is = is

  pub float_shortened : (w : FloatWidth) (bits : ℕ) → HasShortestFloats (shortest (number w bits))
  unfolding rewritten
  float_shortened w bits =
      let s = shortest_is (number w bits) in
      subst HasShortestFloats (sym s.is)
      (shortest_of s.width s.bits (subst (λ (v : Val). shortened v ≡ v) s.is (once (float w bits))))

  pub put_all_short : (ps onto : Pairs) → PairsHaveShortestFloats ps → PairsHaveShortestFloats onto → PairsHaveShortestFloats (put_all ps onto)
  put_all_short no_pairs onto all others = others
  put_all_short (pair k v ps) onto all others = put_all_short ps (put k v onto) all.2 (put_short k v onto all.0 all.1 others)

  mutual
    unfolding rewritten

    pub shortened_short : (v : Val) → HasShortestFloats (shortened v)
    shortened_short null = tt
    shortened_short (bool b) = tt
    shortened_short (integer z) = tt
    shortened_short (float w bits) = float_shortened w bits
    shortened_short (bytes b) = tt
    shortened_short (text b) = tt
    shortened_short (array vs) = all_shortened_short vs
    shortened_short (map ps) = put_all_short (pairs_rewritten Core ps) no_pairs (pairs_shortened_short ps) tt
    shortened_short (tag n v) = shortened_short v

    all_shortened_short : (vs : Vals) → HaveShortestFloats (all_rewritten Core vs)
    all_shortened_short no_vals = tt
    all_shortened_short (val v vs) = (shortened_short v, all_shortened_short vs)

    pairs_shortened_short : (ps : Pairs) → PairsHaveShortestFloats (pairs_rewritten Core ps)
    pairs_shortened_short no_pairs = tt
    pairs_shortened_short (pair k v ps) = (shortened_short k, shortened_short v, pairs_shortened_short ps)

-- ---- the laws

-- the rules of the deterministic form are those, with keys in the order of their bytes
abbrev all : Rules
all = with_keys Bytewise

pub accepted_is_written : AcceptedIsWritten presets.deterministic IsDeterministicOf
accepted_is_written bs v short spelt keeps =
    let r = spelt.item in
    let fine = kept_fine all r keeps in
    let plain = fine_too all presets.canonical (is_canonical Bytewise) (features 0 r) fine in
    let floats = fine_too all floats_only (is_floats Bytewise) (features 0 r) fine in (
      subst HasShortestFloats (sym spelt.valued) (kept_floats 0 r spelt.acceptable.fits floats),
      canonical.accepted_is_written bs v short spelt (fine_kept presets.canonical r plain),
    )

module _ (apart : ApartFloats) where
  pub written_is_accepted : WrittenIsAccepted presets.deterministic IsDeterministicOf
  written_is_accepted bs v short spelt is =
      let r = spelt.item in
      let same = canonical.canonical_item bs v short spelt is.1 in
      fine_kept all r
      (fine_both presets.canonical floats_only all (is_all Bytewise) (features 0 r)
      (kept_fine presets.canonical r (canonical.written_is_accepted bs v short spelt is.1))
      (subst (λ (r : Raw). AreFine floats_only (features 0 r)) (sym same) (floats_kept apart 0 v is.0)))

-- floats of one number have one shortest float
pub apart : ((a b : Float) → (number_of_float a ≡ number_of_float b) ↔ (shortened (float_view a) ≡ shortened (float_view b))) → ApartFloats
unfolding rewritten
apart same a b is = (same (Half a) (Half b)).1 is
