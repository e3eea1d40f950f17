-- An item keeps CTAP2's rules exactly where it is the canonical item of a value without tags and
-- without arrays or maps as keys.
use Rattle.std.proofs.Common.{◌∷◌, pos, negsuc, ◌≡◌, ◌∙◌, ◌⊎◌, inl, inr, sym, ap, ap₂, subst, refl, ℕ, ◌+◌, ◌^◌, ◌<◌, List, [], ◌++◌, length, nat_cmp, Bool, false, Ordering, Less, Equal, Greater, arith}
use Rattle.std.specs.Prelude.{not, ◌==◌, ◌&&◌, nat_lt}
use Rattle.std.proofs.lemmas.Bool.{true≢false}
use Rattle.std.specs.Ordering.{ordering_then, MatchOrdering}
use Rattle.std.proofs.lemmas.Cmp.{ranked}
use Rattle.cbor_model.specs.Acceptable.{max_depth}
use Rattle.cbor_model.specs.Canonical.{canonical_bool, canonical, canonical_all, canonical_pairs, canon, IsStorable, AreStorable, ArePairsStorable}
use Rattle.cbor_model.specs.Head.{least, head}
use Rattle.cbor_model.specs.InRange.{IsInRange, AreInRange, ArePairsInRange}
use Rattle.cbor_model.specs.Order.{lex, major_type}
use Rattle.cbor_model.specs.Plain.{Val, null, bool, integer, float, bytes, text, array, map, tag, Vals, no_vals, val, Pairs, no_pairs, pair}
use Rattle.cbor_model.specs.Raw as raw
use Rattle.cbor_model.specs.Raw.{definite, indefinite, Raw, Raws, no_raws, RawPairs, no_raw_pairs, raw_pair, null_item, IsWellFormed, AreWellFormed, ArePairsWellFormed}
use Rattle.cbor_model.specs.Spelling.{spell, spell_all, spell_pairs}
use Rattle.cbor_model.specs.Value.{value}
use Rattle.cbor_model.proofs.facts.Laws.{value_is_canonical, value_is_storable}
use Rattle.cbor_forms.specs.LengthFirst.{by_length}
use Rattle.cbor_rules.specs.Features.{Feature, number as number_of, simple_item, float_bits, key, head_end, features, all_features, pair_features}
use Rattle.cbor_rules.specs.Presets as presets
use Rattle.cbor_rules.specs.Presets.{IsPlain, IsForCtap2, AreForCtap2, ArePairsForCtap2, IsCtap2Of, WrittenIsAccepted, AcceptedIsWritten}
use Rattle.cbor_rules.specs.Rules.{latest, only, breaks, is_compound, is_less, key_cmp, major}
use Rattle.cbor_rules.specs.declared.settings.Rules.{Rules}
use Rattle.cbor_rules.specs.declared.settings.KeyOrder.TheVariants.{TypeFirst}
use Rattle.cbor_rules.specs.declared.settings.Rule.TheVariants.{ShortestHeads, DefiniteLengths, PlainKeys, AscendingKeys, UniqueKeys, ReducedNumbers, ShortestFloats, OneNan, NoUndefined, NoTags, MostItems, MostPairs, MostBytes}
use Rattle.cbor_rules.proofs.Canonical as canonical
use Rattle.cbor_rules.proofs.Canonical.{IsFine, AreFine, kept_fine, fine_kept, first_fine, rest_fine, both_fine, and_false, items_free, pairs_free, bytes_free, less, first_above, clean, in_range}
use Rattle.cbor_rules.proofs.LengthFirstItems.{first_after}
use Rattle.cbor_rules.proofs.TypeOrder.{head_major, major-is, type_first}

abbrev all : Rules
all = presets.ctap2

-- ---- features

-- a key aside, they keep the canonical rules
to_canonical : (f : Feature) → IsFine all f → breaks (only presets.canonical) AscendingKeys f ≡ false → IsFine presets.canonical f
to_canonical f fine up ShortestHeads = fine ShortestHeads
to_canonical f fine up DefiniteLengths = fine DefiniteLengths
to_canonical f fine up NoUndefined = fine NoUndefined
to_canonical f fine up AscendingKeys = up
to_canonical f fine up MostItems = items_free (only presets.canonical) f refl
to_canonical f fine up MostPairs = pairs_free (only presets.canonical) f refl
to_canonical f fine up MostBytes = bytes_free (only presets.canonical) f refl
to_canonical (key earlier k) fine up UniqueKeys = refl
to_canonical _ fine up UniqueKeys = refl
to_canonical (key earlier k) fine up PlainKeys = refl
to_canonical _ fine up PlainKeys = refl
to_canonical (number_of m w n) fine up ReducedNumbers = refl
to_canonical (float_bits w bits) fine up ReducedNumbers = refl
to_canonical _ fine up ReducedNumbers = refl
to_canonical (float_bits w bits) fine up ShortestFloats = refl
to_canonical _ fine up ShortestFloats = refl
to_canonical (float_bits w bits) fine up OneNan = refl
to_canonical _ fine up OneNan = refl
to_canonical (number_of m w n) fine up NoTags = and_false (m == 6)
to_canonical _ fine up NoTags = refl

from_canonical : (f : Feature) → IsFine presets.canonical f → breaks (only all) NoTags f ≡ false → breaks (only all) PlainKeys f ≡ false → breaks (only all) AscendingKeys f ≡ false → IsFine all f
from_canonical f fine untagged plain up ShortestHeads = fine ShortestHeads
from_canonical f fine untagged plain up DefiniteLengths = fine DefiniteLengths
from_canonical f fine untagged plain up NoUndefined = fine NoUndefined
from_canonical f fine untagged plain up NoTags = untagged
from_canonical f fine untagged plain up PlainKeys = plain
from_canonical f fine untagged plain up AscendingKeys = up
from_canonical f fine untagged plain up MostItems = items_free (only all) f refl
from_canonical f fine untagged plain up MostPairs = pairs_free (only all) f refl
from_canonical f fine untagged plain up MostBytes = bytes_free (only all) f refl
from_canonical (key earlier k) fine untagged plain up UniqueKeys = refl
from_canonical _ fine untagged plain up UniqueKeys = refl
from_canonical (number_of m w n) fine untagged plain up ReducedNumbers = refl
from_canonical (float_bits w bits) fine untagged plain up ReducedNumbers = refl
from_canonical _ fine untagged plain up ReducedNumbers = refl
from_canonical (float_bits w bits) fine untagged plain up ShortestFloats = refl
from_canonical _ fine untagged plain up ShortestFloats = refl
from_canonical (float_bits w bits) fine untagged plain up OneNan = refl
from_canonical _ fine untagged plain up OneNan = refl

-- ---- keys

-- a plain key has nothing inside
plain_for : (v : Val) → IsPlain v → IsForCtap2 v
plain_for null plain = tt
plain_for (bool b) plain = tt
plain_for (integer z) plain = tt
plain_for (float w bits) plain = tt
plain_for (bytes b) plain = tt
plain_for (text b) plain = tt
plain_for (array vs) plain = absurd plain
plain_for (map ps) plain = absurd plain
plain_for (tag n v) plain = absurd plain

abbrev encloses : ℕ → Bool
encloses m = nat_lt 3 m && nat_lt m 7

compound_head : (m n : ℕ) (bs : List ℕ) → is_compound (head m (least n) n ++ bs) ≡ encloses m
compound_head m n bs = ap encloses (head_major m n bs)

-- a key that is no array, map or tag
is_plain : (v : Val) → is_compound (canon v) ≡ false → IsPlain v
unfolding canon canonical spell
is_plain null is = tt
is_plain (bool b) is = tt
is_plain (integer z) is = tt
is_plain (float w bits) is = tt
is_plain (bytes b) is = tt
is_plain (text b) is = tt
is_plain (array vs) is =
    absurd (true≢false (sym (compound_head 4 (raw.count (canonical_all vs)) (spell_all (canonical_all vs))) ∙ is))
is_plain (map ps) is =
    absurd (true≢false (sym (compound_head 5 (raw.pair_count (canonical_pairs ps)) (spell_pairs (canonical_pairs ps))) ∙ is))
is_plain (tag n v) is = absurd (true≢false (sym (compound_head 6 n (spell (canonical v))) ∙ is))

plain_fine : (v : Val) → IsPlain v → IsStorable v → IsInRange v → is_compound (canon v) ≡ false
plain_fine v plain stored held = ap encloses (major-is v plain) ∙ low v plain
  where
    low : (v : Val) → IsPlain v → encloses (major_type v) ≡ false
    low null plain = refl
    low (bool b) plain = refl
    low (integer (pos n)) plain = refl
    low (integer (negsuc n)) plain = refl
    low (float w bits) plain = refl
    low (bytes b) plain = refl
    low (text b) plain = refl
    low (array vs) plain = absurd plain
    low (map ps) plain = absurd plain
    low (tag n v) plain = absurd plain

-- a plain value's encoding
record Earlier (before : List ℕ) : Type 0 where
  of : Val
  plain : IsPlain of
  stored : IsStorable of
  held : IsInRange of
  same : before ≡ canon of

-- none before, or such a one
abbrev Before : List ℕ → Type 0
Before before = (before ≡ []) ⊎ Earlier before

-- a first key is after none
first_typed : (r : Raw) → key_cmp TypeFirst [] (spell r) ≡ Less
first_typed r = by (nat_cmp 0 (major (spell r))) (ranked 0 (major (spell r)) (nat_cmp 0 (major (spell r))) refl)
  where
    by : (o : Ordering) → MatchOrdering o (0 < major (spell r)) (0 ≡ major (spell r)) (major (spell r) < 0) → ordering_then o (by_length [] (spell r)) ≡ Less
    by Less is = refl
    by Equal is = first_after r
    by Greater is = absurd (omega (arith, is))

module _ (before k : List ℕ) (l : Val) (plain : IsPlain l) (stored : IsStorable l) (held : IsInRange l) (is : k ≡ canon l) where
  same_order : (e : Earlier before) → key_cmp TypeFirst before k ≡ lex before k
  same_order e =
      ap₂ (key_cmp TypeFirst) e.same is
      ∙ type_first e.of l e.plain plain e.stored stored e.held held
      ∙ sym (ap₂ lex e.same is)

-- ---- what keeps CTAP2's rules keeps the canonical ones

mutual
  unfolding features canon

  bytewise : (at : ℕ) (r : Raw) → IsWellFormed r → AreFine all (features at r) → AreFine presets.canonical (features at r)
  bytewise at (raw.unsigned w n) fits fine = (to_canonical (number_of 0 w n) fine.0 refl, tt)
  bytewise at (raw.negative w n) fits fine = (to_canonical (number_of 1 w n) fine.0 refl, tt)
  bytewise at (raw.bytes c) fits fine = (to_canonical (number_of 2 c.width (length c.bytes)) fine.0 refl, tt)
  bytewise at (raw.text c) fits fine = (to_canonical (number_of 3 c.width (length c.bytes)) fine.0 refl, tt)
  bytewise at (raw.bytes_chunks cs) fits fine = absurd (let no = fine.0 DefiniteLengths in cc)
  bytewise at (raw.text_chunks cs) fits fine = absurd (let no = fine.0 DefiniteLengths in cc)
  bytewise at (raw.array (definite w) rs) fits fine =
      let n = raw.count rs in
      (to_canonical (number_of 4 w n) fine.0 refl, all_bytewise (head_end at 4 w n) rs fits.1 fine.1)
  bytewise at (raw.array indefinite rs) fits fine = absurd (let no = fine.0 DefiniteLengths in cc)
  bytewise at (raw.map (definite w) ps) fits fine =
      let n = raw.pair_count ps in
      (to_canonical (number_of 5 w n) fine.0 refl, pairs_bytewise (head_end at 5 w n) [] ps fits.1 fine.1 (inl refl))
  bytewise at (raw.map indefinite ps) fits fine = absurd (let no = fine.0 DefiniteLengths in cc)
  bytewise at (raw.tag w n r) fits fine = absurd (let no = fine.0 NoTags in cc)
  bytewise at (raw.simple s) fits fine = (to_canonical (simple_item s) fine.0 refl, tt)
  bytewise at (raw.float w bits) fits fine = (to_canonical (float_bits w bits) fine.0 refl, tt)

  all_bytewise : (at : ℕ) (rs : Raws) → AreWellFormed rs → AreFine all (all_features at rs) → AreFine presets.canonical (all_features at rs)
  all_bytewise at no_raws fits fine = tt
  all_bytewise at (raw.raw r rs) fits fine =
      let more = all_features (at + length (spell r)) rs in
      both_fine presets.canonical (features at r) more
      (bytewise at r fits.0 (first_fine all (features at r) more fine))
      (all_bytewise (at + length (spell r)) rs fits.1 (rest_fine all (features at r) more fine))

  pairs_bytewise : (at : ℕ) (earlier : List (List ℕ)) (ps : RawPairs) → ArePairsWellFormed ps → AreFine all (pair_features at earlier ps) → Before (latest earlier) → AreFine presets.canonical (pair_features at earlier ps)
  pairs_bytewise at earlier no_raw_pairs fits fine by_last = tt
  pairs_bytewise at earlier (raw_pair k v ps) fits fine by_last =
      let here = at + length (spell k) in
      let there = at + length (spell k) + length (spell v) in
      let others = pair_features there (spell k ∷ earlier) ps in
      let a = rest_fine all (features at k) _ fine in
      let name = bytewise at k fits.0 (first_fine all (features at k) _ fine) in
      let is : k ≡ canonical (value k) = clean at k fits.0 name in
      let same : spell k ≡ canon (value k) = ap spell is in
      let plain = is_plain (value k) (ap is_compound (sym same) ∙ a.0 PlainKeys) in
      let stored = value_is_storable k fits.0 in
      let held = in_range (value k) (subst IsWellFormed is fits.0) in
      let up : lex (latest earlier) (spell k) ≡ Less = elim by_last [
        | inl none ↦ ap (λ (b : List ℕ). lex b (spell k)) none ∙ first_above k
        | inr e ↦ sym (same_order (latest earlier) (spell k) (value k) plain stored held same e) ∙ less (key_cmp TypeFirst (latest earlier) (spell k)) (a.0 AscendingKeys)
      ] in
      both_fine presets.canonical (features at k) _ name (
        to_canonical (key earlier (spell k)) a.0 (ap (λ (o : Ordering). not (is_less o)) up),
        both_fine presets.canonical (features here v) others
            (bytewise here v fits.1 (first_fine all (features here v) others a.1))
            (pairs_bytewise there (spell k ∷ earlier) ps fits.2 (rest_fine all (features here v) others a.1)
            (inr (record { of = value k; plain = plain; stored = stored; held = held; same = same }))),
      )

mutual
  unfolding features canonical canon

  for_ctap2 : (at : ℕ) (v : Val) → AreFine all (features at (canonical v)) → IsForCtap2 v
  for_ctap2 at null fine = tt
  for_ctap2 at (bool b) fine = tt
  for_ctap2 at (integer z) fine = tt
  for_ctap2 at (float w bits) fine = tt
  for_ctap2 at (bytes b) fine = tt
  for_ctap2 at (text b) fine = tt
  for_ctap2 at (array vs) fine = all_for_ctap2 _ vs fine.1
  for_ctap2 at (map ps) fine = pairs_for_ctap2 _ [] ps fine.1
  for_ctap2 at (tag n v) fine = absurd (let no = fine.0 NoTags in cc)

  all_for_ctap2 : (at : ℕ) (vs : Vals) → AreFine all (all_features at (canonical_all vs)) → AreForCtap2 vs
  all_for_ctap2 at no_vals fine = tt
  all_for_ctap2 at (val v vs) fine =
      let more = all_features (at + length (spell (canonical v))) (canonical_all vs) in (
        for_ctap2 at v (first_fine all (features at (canonical v)) more fine),
        all_for_ctap2 (at + length (spell (canonical v))) vs (rest_fine all (features at (canonical v)) more fine),
      )

  pairs_for_ctap2 : (at : ℕ) (earlier : List (List ℕ)) (ps : Pairs) → AreFine all (pair_features at earlier (canonical_pairs ps)) → ArePairsForCtap2 ps
  pairs_for_ctap2 at earlier no_pairs fine = tt
  pairs_for_ctap2 at earlier (pair k v ps) fine =
      let name = spell (canonical k) in
      let here = at + length name in
      let there = at + length name + length (spell (canonical v)) in
      let others = pair_features there (name ∷ earlier) (canonical_pairs ps) in
      let a = rest_fine all (features at (canonical k)) _ fine in (
        is_plain k (a.0 PlainKeys),
        for_ctap2 here v (first_fine all (features here (canonical v)) others a.1),
        pairs_for_ctap2 there (name ∷ earlier) ps (rest_fine all (features here (canonical v)) others a.1),
      )

-- ---- and what is written of such a value keeps CTAP2's

mutual
  unfolding features canonical canon

  typed : (at : ℕ) (v : Val) → IsForCtap2 v → IsStorable v → IsInRange v → AreFine presets.canonical (features at (canonical v)) → AreFine all (features at (canonical v))
  typed at null for stored held fine = (from_canonical (simple_item null_item) fine.0 refl refl refl, tt)
  typed at (bool b) for stored held fine = (from_canonical (simple_item (canonical_bool b)) fine.0 refl refl refl, tt)
  typed at (integer (pos n)) for stored held fine = (from_canonical (number_of 0 (least n) n) fine.0 refl refl refl, tt)
  typed at (integer (negsuc n)) for stored held fine = (from_canonical (number_of 1 (least n) n) fine.0 refl refl refl, tt)
  typed at (float w bits) for stored held fine = (from_canonical (float_bits w bits) fine.0 refl refl refl, tt)
  typed at (bytes b) for stored held fine = (from_canonical (number_of 2 (least (length b)) (length b)) fine.0 refl refl refl, tt)
  typed at (text b) for stored held fine = (from_canonical (number_of 3 (least (length b)) (length b)) fine.0 refl refl refl, tt)
  typed at (array vs) for stored held fine =
      let n = raw.count (canonical_all vs) in
      (from_canonical (number_of 4 (least n) n) fine.0 refl refl refl, all_typed (head_end at 4 (least n) n) vs for stored held.1 fine.1)
  typed at (map ps) for stored held fine =
      let n = raw.pair_count (canonical_pairs ps) in
      (from_canonical (number_of 5 (least n) n) fine.0 refl refl refl, pairs_typed (head_end at 5 (least n) n) [] ps for stored held.1 fine.1 (inl refl))
  typed at (tag n v) for stored held fine = absurd for

  all_typed : (at : ℕ) (vs : Vals) → AreForCtap2 vs → AreStorable vs → AreInRange vs → AreFine presets.canonical (all_features at (canonical_all vs)) → AreFine all (all_features at (canonical_all vs))
  all_typed at no_vals for stored held fine = tt
  all_typed at (val v vs) for stored held fine =
      let here = at + length (spell (canonical v)) in
      let more = all_features here (canonical_all vs) in
      both_fine all (features at (canonical v)) more
      (typed at v for.0 stored.0 held.0 (first_fine presets.canonical (features at (canonical v)) more fine))
      (all_typed here vs for.1 stored.1 held.1 (rest_fine presets.canonical (features at (canonical v)) more fine))

  pairs_typed : (at : ℕ) (earlier : List (List ℕ)) (ps : Pairs) → ArePairsForCtap2 ps → ArePairsStorable ps → ArePairsInRange ps → AreFine presets.canonical (pair_features at earlier (canonical_pairs ps)) → Before (latest earlier) → AreFine all (pair_features at earlier (canonical_pairs ps))
  pairs_typed at earlier no_pairs for stored held fine by_last = tt
  pairs_typed at earlier (pair k v ps) for stored held fine by_last =
      let name = spell (canonical k) in
      let here = at + length name in
      let there = at + length name + length (spell (canonical v)) in
      let others = pair_features there (name ∷ earlier) (canonical_pairs ps) in
      let a = rest_fine presets.canonical (features at (canonical k)) _ fine in
      let up : key_cmp TypeFirst (latest earlier) name ≡ Less = elim by_last [
        | inl none ↦ ap (λ (b : List ℕ). key_cmp TypeFirst b name) none ∙ first_typed (canonical k)
        | inr e ↦ same_order (latest earlier) name k for.0 stored.0 held.0 refl e ∙ less (lex (latest earlier) name) (a.0 AscendingKeys)
      ] in
      both_fine all (features at (canonical k)) _
      (typed at k (plain_for k for.0) stored.0 held.0 (first_fine presets.canonical (features at (canonical k)) _ fine)) (
        from_canonical (key earlier name) a.0 refl (plain_fine k for.0 stored.0 held.0) (ap (λ (o : Ordering). not (is_less o)) up),
        both_fine all (features here (canonical v)) others
            (typed here v for.1 stored.1 held.1 (first_fine presets.canonical (features here (canonical v)) others a.1))
            (pairs_typed there (name ∷ earlier) ps for.2 stored.2 held.2 (rest_fine presets.canonical (features here (canonical v)) others a.1)
            (inr (record { of = k; plain = for.0; stored = stored.0; held = held.0; same = refl }))),
      )

-- ---- the laws

pub accepted_is_written : AcceptedIsWritten presets.ctap2 IsCtap2Of
accepted_is_written bs v short spelt keeps =
    let r = spelt.item in
    let fine = kept_fine all r keeps in
    let plain = bytewise 0 r spelt.acceptable.fits fine in
    let is : r ≡ canonical (value r) = clean 0 r spelt.acceptable.fits plain in (
      subst IsForCtap2 (sym spelt.valued) (for_ctap2 0 (value r) (subst (λ (s : Raw). AreFine all (features 0 s)) is fine)),
      canonical.accepted_is_written bs v short spelt (fine_kept presets.canonical r plain),
    )

pub written_is_accepted : WrittenIsAccepted presets.ctap2 IsCtap2Of
written_is_accepted bs v short spelt is =
    let r = spelt.item in
    let same = canonical.canonical_item bs v short spelt is.1 in
    let good = value_is_canonical max_depth r spelt.acceptable (subst (λ (bs : List ℕ). length bs < 2 ^ 64) (sym spelt.spelled) short) in
    let stored = subst IsStorable (sym spelt.valued) good.0 in
    let held = in_range v (subst IsWellFormed same spelt.acceptable.fits) in
    let plain = kept_fine presets.canonical r (canonical.written_is_accepted bs v short spelt is.1) in
    fine_kept all r
    (subst (λ (s : Raw). AreFine all (features 0 s)) (sym same)
    (typed 0 v is.0 stored held (subst (λ (s : Raw). AreFine presets.canonical (features 0 s)) same plain)))
