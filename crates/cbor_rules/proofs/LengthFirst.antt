-- An item keeps the rules of the length-first form exactly where it is encoded as its value is so.
use Rattle.std.proofs.Common.{◌∷◌, ◌≡◌, ◌∙◌, sym, ap, ap₂, subst, refl, arith, ℕ, ◌+◌, List, [], ◌++◌, length, Less}
use Rattle.cbor_model.specs.Canonical.{KeysAscend, IsBelow, canonical, canon}
use Rattle.cbor_model.specs.FiniteMap.{put_all}
use Rattle.cbor_model.specs.Head.{head, least, short}
use Rattle.cbor_model.specs.Plain as plain
use Rattle.cbor_model.specs.Plain.{Val, bytes, Pairs, no_pairs, pair}
use Rattle.cbor_model.specs.Raw as raw
use Rattle.cbor_model.specs.Raw.{definite, indefinite, Raw, Raws, no_raws, RawPairs, no_raw_pairs, raw_pair, false_item, true_item, null_item, undefined_item, IsWellFormed, AreWellFormed, ArePairsWellFormed}
use Rattle.cbor_model.specs.Spelling.{spell, spell_all, spell_pairs}
use Rattle.cbor_model.specs.Value.{value, values, pairs}
use Rattle.cbor_model.proofs.facts.Maps.{put_all-ascending}
use Rattle.cbor_forms.specs.LengthFirst.{length_first, all_length_first, encoded, joined, by_length, as_byte_strings}
use Rattle.cbor_rules.specs.Features.{head_end, features, all_features, pair_features}
use Rattle.cbor_rules.specs.Presets as presets
use Rattle.cbor_rules.specs.Presets.{AcceptedIsWritten, IsLengthFirstOf, HasShortestFloats}
use Rattle.cbor_rules.specs.declared.settings.Rules.{Rules}
use Rattle.cbor_rules.specs.declared.settings.KeyOrder.TheVariants.{LengthFirst}
use Rattle.cbor_rules.specs.Rules.{latest}
use Rattle.cbor_rules.specs.declared.settings.Rule.TheVariants.{ShortestHeads, DefiniteLengths, AscendingKeys, NoUndefined}
use Rattle.cbor_rules.proofs.Canonical.{AreFine, by_keys, kept_fine, first_fine, rest_fine, shortest, less, listed, pairs-listed}
use Rattle.cbor_rules.proofs.Deterministic.{floats_only, with_keys, fine_too, is_canonical, is_floats, kept_floats}
use Rattle.cbor_rules.proofs.Puts.{encoded_put_all, count_values_put, ascending_apart, all_apart_none}

-- ---- pairs

-- their encodings as byte strings
abbrev pub strings : RawPairs → Pairs
strings no_raw_pairs = no_pairs
strings (raw_pair k v ps) = pair (bytes (spell k)) (bytes (spell v)) (strings ps)

pub joined_strings : (ps : RawPairs) → joined (strings ps) ≡ spell_pairs ps
unfolding spell
joined_strings no_raw_pairs = refl
joined_strings (raw_pair k v ps) = ap (λ (z : List ℕ). spell k ++ (spell v ++ z)) (joined_strings ps)

count_values : (rs : Raws) → raw.count rs ≡ plain.count (values rs)
unfolding value
count_values no_raws = refl
count_values (raw.raw r rs) = omega (arith, count_values rs)

count_listed : (ps : RawPairs) → raw.pair_count ps ≡ plain.pair_count (listed ps)
count_listed no_raw_pairs = refl
count_listed (raw_pair k v ps) = omega (arith, count_listed ps)

-- the first of the pairs' keys is after these bytes
abbrev pub FirstAfter : List ℕ → RawPairs → Type 0
FirstAfter before no_raw_pairs = Unit {0}
FirstAfter before (raw_pair k v ps) = by_length before (spell k) ≡ Less

below_first : (k : Raw) (ps : RawPairs) → FirstAfter (spell k) ps → IsBelow (bytes (spell k)) (strings ps)
below_first k no_raw_pairs after = tt
below_first k (raw_pair l v ps) after = as_byte_strings (spell k) (spell l) ∙ after

-- ---- what keeps them

abbrev rules : Rules
rules = by_keys LengthFirst

record AreSorted (before : List ℕ) (ps : RawPairs) : Type 0 where
  same : strings ps ≡ encoded (listed ps)
  firsts : FirstAfter before ps
  ascend : KeysAscend (strings ps)

sorted_map : (ps : RawPairs) → strings ps ≡ encoded (listed ps) → KeysAscend (strings ps) → head 5 (least (raw.pair_count ps)) (raw.pair_count ps) ++ spell_pairs ps ≡ length_first (value (raw.map indefinite ps))
unfolding length_first value
sorted_map ps same ascend =
    let vs = listed ps in
    let up : KeysAscend (encoded vs) = subst KeysAscend same ascend in
    let apart = ascending_apart vs up in
    let put_in = pairs-listed ps no_pairs in
    let counted : raw.pair_count ps ≡ plain.pair_count (pairs ps no_pairs) =
    omega (arith, count_listed ps, count_values_put vs apart, ap plain.pair_count put_in) in
    let in_order : strings ps ≡ put_all (encoded (pairs ps no_pairs)) no_pairs =
    same ∙ sym (put_all-ascending (encoded vs) up) ∙ sym (encoded_put_all vs no_pairs apart (all_apart_none vs)) ∙ ap (λ (qs : Pairs). put_all (encoded qs) no_pairs) (sym put_in) in
    ap₂ (λ (n : ℕ) (bs : List ℕ). short 5 n ++ bs) counted (sym (joined_strings ps) ∙ ap joined in_order)

mutual
  unfolding features value length_first canonical canon spell

  clean : (at : ℕ) (r : Raw) → IsWellFormed r → AreFine rules (features at r) → spell r ≡ length_first (value r)
  clean at (raw.unsigned w n) fits fine = ap (λ w. head 0 w n) (shortest w n fits (fine.0 ShortestHeads))
  clean at (raw.negative w n) fits fine = ap (λ w. head 1 w n) (shortest w n fits (fine.0 ShortestHeads))
  clean at (raw.bytes c) fits fine = ap (λ w. head 2 w (length c.bytes) ++ c.bytes) (shortest c.width (length c.bytes) fits.0 (fine.0 ShortestHeads))
  clean at (raw.text c) fits fine = ap (λ w. head 3 w (length c.bytes) ++ c.bytes) (shortest c.width (length c.bytes) fits.0 (fine.0 ShortestHeads))
  clean at (raw.bytes_chunks cs) fits fine = absurd (let no = fine.0 DefiniteLengths in cc)
  clean at (raw.text_chunks cs) fits fine = absurd (let no = fine.0 DefiniteLengths in cc)
  clean at (raw.array (definite w) rs) fits fine =
      let n = raw.count rs in
      ap (λ w. head 4 w n ++ spell_all rs) (shortest w n fits.0 (fine.0 ShortestHeads))
      ∙ ap₂ (λ (n : ℕ) (bs : List ℕ). short 4 n ++ bs) (count_values rs) (all_clean (head_end at 4 w n) rs fits.1 fine.1)
  clean at (raw.array indefinite rs) fits fine = absurd (let no = fine.0 DefiniteLengths in cc)
  clean at (raw.map (definite w) ps) fits fine =
      let n = raw.pair_count ps in
      let got = pairs_clean (head_end at 5 w n) [] ps fits.1 fine.1 in
      ap (λ w. head 5 w n ++ spell_pairs ps) (shortest w n fits.0 (fine.0 ShortestHeads)) ∙ sorted_map ps got.same got.ascend
  clean at (raw.map indefinite ps) fits fine = absurd (let no = fine.0 DefiniteLengths in cc)
  clean at (raw.tag w n r) fits fine =
      ap (λ w. head 6 w n ++ spell r) (shortest w n fits.0 (fine.0 ShortestHeads)) ∙ ap (λ (bs : List ℕ). short 6 n ++ bs) (clean (head_end at 6 w n) r fits.1 fine.1)
  clean at (raw.simple false_item) fits fine = refl
  clean at (raw.simple true_item) fits fine = refl
  clean at (raw.simple null_item) fits fine = refl
  clean at (raw.simple undefined_item) fits fine = absurd (let no = fine.0 NoUndefined in cc)
  clean at (raw.float w bits) fits fine = refl

  all_clean : (at : ℕ) (rs : Raws) → AreWellFormed rs → AreFine rules (all_features at rs) → spell_all rs ≡ all_length_first (values rs)
  all_clean at no_raws fits fine = refl
  all_clean at (raw.raw r rs) fits fine =
      let more = all_features (at + length (spell r)) rs in
      ap₂ (λ (a b : List ℕ). a ++ b) (clean at r fits.0 (first_fine rules (features at r) more fine)) (all_clean (at + length (spell r)) rs fits.1 (rest_fine rules (features at r) more fine))

  pairs_clean : (at : ℕ) (earlier : List (List ℕ)) (ps : RawPairs) → ArePairsWellFormed ps → AreFine rules (pair_features at earlier ps) → AreSorted (latest earlier) ps
  pairs_clean at earlier no_raw_pairs fits fine = record { same = refl; firsts = tt; ascend = tt }
  pairs_clean at earlier (raw_pair k v ps) fits fine =
      let here = at + length (spell k) in
      let there = at + length (spell k) + length (spell v) in
      let others = pair_features there (spell k ∷ earlier) ps in
      let a = rest_fine rules (features at k) _ fine in
      let name = clean at k fits.0 (first_fine rules (features at k) _ fine) in
      let content = clean here v fits.1 (first_fine rules (features here v) others a.1) in
      let later = pairs_clean there (spell k ∷ earlier) ps fits.2 (rest_fine rules (features here v) others a.1) in
      record {
        same = ap₂ (λ (x y : List ℕ). pair (bytes x) (bytes y) (strings ps)) name content ∙ ap (pair (bytes (length_first (value k))) (bytes (length_first (value v)))) later.same;
        firsts = less (by_length (latest earlier) (spell k)) (a.0 AscendingKeys);
        ascend = (below_first k ps later.firsts, later.ascend);
      }

pub accepted_is_written : AcceptedIsWritten presets.length_first IsLengthFirstOf
accepted_is_written bs v short spelt keeps =
    let all = with_keys LengthFirst in
    let r = spelt.item in
    let fine = kept_fine all r keeps in
    let plain = fine_too all rules (is_canonical LengthFirst) (features 0 r) fine in
    let floats = fine_too all floats_only (is_floats LengthFirst) (features 0 r) fine in (
      subst HasShortestFloats (sym spelt.valued) (kept_floats 0 r spelt.acceptable.fits floats),
      sym spelt.spelled ∙ clean 0 r spelt.acceptable.fits plain ∙ ap length_first (sym spelt.valued),
    )
