-- The item that is written with shorter keys first keeps the rules of that form.
use Rattle.std.proofs.Common.{◌∷◌, pos, negsuc, ◌≡◌, ◌∙◌, sym, ap, ap₂, subst, refl, arith, ℕ, ◌+◌, ◌^◌, ◌<◌, ◌≤◌, List, [], ◌++◌, length, Ordering, Less, Equal, Greater}
use Rattle.std.specs.Prelude.{IsUtf8}
use Rattle.std.specs.Cmp.{nat_cmp_is}
use Rattle.std.specs.Ordering.{ordering_then}
use Rattle.cbor_model.specs.Acceptable.{IsAcceptableWithin, max_depth}
use Rattle.cbor_model.specs.Canonical.{canonical_bool, canonical, canonical_all, canonical_pairs, canon, IsStorable, AreStorable, ArePairsStorable, IsOrdered, AreOrdered, ArePairsOrdered, IsBelow, KeysAscend}
use Rattle.cbor_model.specs.FiniteMap.{put_all}
use Rattle.cbor_model.specs.Head.{least, limit, short}
use Rattle.cbor_model.specs.InMemory.{IsInMemory, AreInMemory, ArePairsInMemory}
use Rattle.cbor_model.specs.Laws.{SpellsValue}
use Rattle.cbor_model.specs.Order.{lex, val_cmp}
use Rattle.cbor_model.specs.Plain as plain
use Rattle.cbor_model.specs.Plain.{Val, null, bool, integer, float, bytes, text, array, map, tag, Vals, no_vals, val, Pairs, no_pairs, pair}
use Rattle.cbor_model.specs.Raw as raw
use Rattle.cbor_model.specs.Raw.{half, single, double, definite, indefinite, null_item, Raw, Raws, no_raws, RawPairs, no_raw_pairs, raw_pair, IsWellFormed, AreWellFormed, ArePairsWellFormed, depth, EachText, EachTextOfAll, EachTextOfPairs}
use Rattle.cbor_model.specs.Spelling.{spell, spell_all}
use Rattle.cbor_model.specs.Value.{value, put, by_order}
use Rattle.cbor_model.proofs.facts.Canonical.{count_canonical, pair_count_canonical}
use Rattle.cbor_model.proofs.facts.Laws.{value_is_canonical}
use Rattle.cbor_model.proofs.facts.Maps.{IsBelow-trans, KeysAscend-put_all, KeysAscend-from_IsOrdered}
use Rattle.cbor_forms.specs.LengthFirst.{length_first, all_length_first, encoded, joined, by_length, as_byte_strings}
use Rattle.cbor_rules.specs.Features.{number, simple_item, float_bits, key, head_end, features, all_features, pair_features}
use Rattle.cbor_rules.specs.Presets as presets
use Rattle.cbor_rules.specs.Presets.{WrittenIsAccepted, IsLengthFirstOf, HasShortestFloats, HaveShortestFloats, PairsHaveShortestFloats}
use Rattle.cbor_rules.specs.Rules.{latest, Keeps, only}
use Rattle.cbor_rules.specs.declared.settings.Rules.{Rules}
use Rattle.cbor_rules.specs.declared.settings.KeyOrder.TheVariants.{LengthFirst}
use Rattle.cbor_rules.proofs.Canonical.{IsFine, AreFine, one_item, kept_fine, fine_kept, both_fine, number_fine, key_fine, simple_fine, bool_written, limit-le}
use Rattle.cbor_rules.proofs.Canonical as canonical
use Rattle.cbor_rules.proofs.Deterministic.{ApartFloats, with_keys, is_all, other_fine}
use Rattle.cbor_rules.proofs.Deterministic as deterministic
use Rattle.cbor_rules.proofs.LengthFirst.{strings, joined_strings, FirstAfter}
use Rattle.cbor_rules.proofs.Puts.{IsApart, AreApart, count_codes_put, less_apart}

abbrev all : Rules
all = with_keys LengthFirst

-- ---- features

a_number : (major n : ℕ) → IsFine all (number major (least n) n)
a_number major n = is_all LengthFirst (number major (least n) n) (number_fine LengthFirst major n) (other_fine (number major (least n) n) (λ is. is))

a_simple : (s : raw.Simple) → canonical.IsWritten s → IsFine all (simple_item s)
a_simple s is = is_all LengthFirst (simple_item s) (simple_fine LengthFirst s is) (other_fine (simple_item s) (λ is. is))

a_key : (earlier : List (List ℕ)) (k : List ℕ) → by_length (latest earlier) k ≡ Less → IsFine all (key earlier k)
a_key earlier k is = is_all LengthFirst (key earlier k) (key_fine LengthFirst earlier k refl is) (other_fine (key earlier k) (λ is. is))

-- ---- encodings of items

-- an item that is encoded so keeps the rules, wherever it stands
pub record IsEncoded (bs : List ℕ) : Type 0 where
  item : Raw
  fits : IsWellFormed item
  fine : (at : ℕ) → AreFine all (features at item)
  is : spell item ≡ bs

abbrev IsCode : Val → Type 0
IsCode (bytes b) = IsEncoded b
IsCode _ = ⊥

abbrev AreCodes : Pairs → Type 0
AreCodes no_pairs = Unit {0}
AreCodes (pair k v ps) = IsCode k × IsCode v × AreCodes ps

put_codes : (k v : Val) (ps : Pairs) → IsCode k → IsCode v → AreCodes ps → AreCodes (put k v ps)
put_codes k v no_pairs name content each = (name, content, tt)
put_codes k v (pair l w ps) name content each = by (val_cmp k l) (put_codes k v ps name content each.2)
  where
    by : (o : Ordering) → AreCodes (put k v ps) → AreCodes (by_order o (pair k v (pair l w ps)) (pair k v ps) (pair l w (put k v ps)))
    by Less others = (name, content, each)
    by Equal others = (name, content, each.2)
    by Greater others = (each.0, each.1, others)

put_all_codes : (ps onto : Pairs) → AreCodes ps → AreCodes onto → AreCodes (put_all ps onto)
put_all_codes no_pairs onto each others = others
put_all_codes (pair k v ps) onto each others = put_all_codes ps (put k v onto) each.2 (put_codes k v onto each.0 each.1 others)

-- the items of pairs of encodings
abbrev EachFine : RawPairs → Type 0
EachFine no_raw_pairs = Unit {0}
EachFine (raw_pair k v ps) = ((at : ℕ) → AreFine all (features at k)) × ((at : ℕ) → AreFine all (features at v)) × EachFine ps

record Decoded (ps : Pairs) : Type 0 where
  items : RawPairs
  fits : ArePairsWellFormed items
  fine : EachFine items
  counted : raw.pair_count items ≡ plain.pair_count ps
  is : strings items ≡ ps

decoded : (ps : Pairs) → AreCodes ps → Decoded ps
decoded no_pairs each = record { items = no_raw_pairs; fits = tt; fine = tt; counted = refl; is = refl }
decoded (pair (bytes a) (bytes b) ps) each =
    let rest = decoded ps each.2 in
    record {
      items = raw_pair each.0.item each.1.item rest.items;
      fits = (each.0.fits, each.1.fits, rest.fits);
      fine = (each.0.fine, each.1.fine, rest.fine);
      counted = omega (arith, rest.counted);
      is = ap₂ (λ (x y : List ℕ). pair (bytes x) (bytes y) (strings rest.items)) each.0.is each.1.is ∙ ap (pair (bytes a) (bytes b)) rest.is;
    }
decoded (pair (bytes a) v ps) each = absurd each.1
decoded (pair k v ps) each = absurd each.0

next_after : (k : Raw) (ps : RawPairs) → IsBelow (bytes (spell k)) (strings ps) → FirstAfter (spell k) ps
next_after k no_raw_pairs below = tt
next_after k (raw_pair l v ps) below = sym (as_byte_strings (spell k) (spell l)) ∙ below

pairs_fine : (ps : RawPairs) (at : ℕ) (earlier : List (List ℕ)) → EachFine ps → KeysAscend (strings ps) → FirstAfter (latest earlier) ps → AreFine all (pair_features at earlier ps)
unfolding features
pairs_fine no_raw_pairs at earlier fine ascend after = tt
pairs_fine (raw_pair k v ps) at earlier fine ascend after =
    let here = at + length (spell k) in
    let there = at + length (spell k) + length (spell v) in
    both_fine all (features at k) _ (fine.0 at) (
      a_key earlier (spell k) after,
      both_fine all (features here v) (pair_features there (spell k ∷ earlier) ps) (fine.1 here) (pairs_fine ps there (spell k ∷ earlier) fine.2 ascend.1 (next_after k ps ascend.0)),
    )

some : (r : Raw) → 0 < length (spell r)
unfolding spell
some (raw.unsigned w n) = omega arith
some (raw.negative w n) = omega arith
some (raw.bytes c) = omega arith
some (raw.text c) = omega arith
some (raw.bytes_chunks cs) = omega arith
some (raw.text_chunks cs) = omega arith
some (raw.array (definite w) rs) = omega arith
some (raw.array indefinite rs) = omega arith
some (raw.map (definite w) ps) = omega arith
some (raw.map indefinite ps) = omega arith
some (raw.tag w n r) = omega arith
some (raw.simple s) = omega arith
some (raw.float half bits) = omega arith
some (raw.float single bits) = omega arith
some (raw.float double bits) = omega arith

pub first_after : (r : Raw) → by_length [] (spell r) ≡ Less
first_after r = ap (λ (o : Ordering). ordering_then o (lex [] (spell r))) (sym (nat_cmp_is 0 (length (spell r)) Less (some r)))

first_of : (ps : RawPairs) → FirstAfter [] ps
first_of no_raw_pairs = tt
first_of (raw_pair k v ps) = first_after k

-- ---- values

-- in each map of the value the keys are encoded apart
abbrev mutual
  KeysApart : Val → Type 0
  KeysApart (array vs) = AllKeysApart vs
  KeysApart (map ps) = AreApart ps × PairKeysApart ps
  KeysApart (tag n v) = KeysApart v
  KeysApart _ = Unit {0}

  AllKeysApart : Vals → Type 0
  AllKeysApart no_vals = Unit {0}
  AllKeysApart (val v vs) = KeysApart v × AllKeysApart vs

  PairKeysApart : Pairs → Type 0
  PairKeysApart no_pairs = Unit {0}
  PairKeysApart (pair k v ps) = KeysApart k × KeysApart v × PairKeysApart ps

record AreEncoded (vs : Vals) : Type 0 where
  items : Raws
  fits : AreWellFormed items
  fine : (at : ℕ) → AreFine all (all_features at items)
  counted : raw.count items ≡ plain.count vs
  is : spell_all items ≡ all_length_first vs

-- a count that fits
fits_count : (n m : ℕ) → m < limit (least m) → m ≡ n → n < limit (least n)
fits_count n m fits is = subst (λ (n : ℕ). n < limit (least n)) is fits

array_encoded : (vs : Vals) → IsWellFormed (canonical (array vs)) → AreEncoded vs → IsEncoded (length_first (array vs))
unfolding canonical features spell length_first
array_encoded vs fits items =
    let n = raw.count items.items in
    record {
      item = raw.array (definite (least n)) items.items;
      fits = (fits_count n (raw.count (canonical_all vs)) fits.0 (omega (arith, count_canonical vs, items.counted)), items.fits);
      fine = λ at. (a_number 4 n, items.fine (head_end at 4 (least n) n));
      is = ap₂ (λ (n : ℕ) (bs : List ℕ). short 4 n ++ bs) items.counted items.is;
    }

map_encoded : (ps : Pairs) → IsWellFormed (canonical (map ps)) → AreApart ps → AreCodes (encoded ps) → IsEncoded (length_first (map ps))
unfolding canonical features spell length_first
map_encoded ps fits apart each =
    let put_in = put_all (encoded ps) no_pairs in
    let all_in = decoded put_in (put_all_codes (encoded ps) no_pairs each tt) in
    let n = raw.pair_count all_in.items in
    let counted : n ≡ plain.pair_count ps = omega (arith, all_in.counted, count_codes_put ps apart) in
    let up : KeysAscend (strings all_in.items) = subst KeysAscend (sym all_in.is) (KeysAscend-put_all (encoded ps) no_pairs tt) in
    record {
      item = raw.map (definite (least n)) all_in.items;
      fits = (fits_count n (raw.pair_count (canonical_pairs ps)) fits.0 (omega (arith, pair_count_canonical ps, counted)), all_in.fits);
      fine = λ at. (a_number 5 n, pairs_fine all_in.items (head_end at 5 (least n) n) [] all_in.fine up (first_of all_in.items));
      is = ap₂ (λ (n : ℕ) (bs : List ℕ). short 5 n ++ bs) counted (sym (joined_strings all_in.items) ∙ ap joined all_in.is);
    }

tag_encoded : (n : ℕ) (v : Val) → n < limit (least n) → IsEncoded (length_first v) → IsEncoded (length_first (tag n v))
unfolding features spell length_first
tag_encoded n v fits one = record {
  item = raw.tag (least n) n one.item;
  fits = (fits, one.fits);
  fine = λ at. (a_number 6 n, one.fine (head_end at 6 (least n) n));
  is = ap (λ (bs : List ℕ). short 6 n ++ bs) one.is;
}

module _ (apart : ApartFloats) where
  a_float : (w : raw.FloatWidth) (bits : ℕ) → presets.IsShortest w bits → IsFine all (float_bits w bits)
  a_float w bits short = is_all LengthFirst (float_bits w bits) (canonical.float_fine LengthFirst w bits) (deterministic.float_fine apart w bits short)

  mutual
    unfolding canonical canon features spell length_first

    encodes : (v : Val) → IsWellFormed (canonical v) → HasShortestFloats v → KeysApart v → IsEncoded (length_first v)
    encodes null fits short each = record { item = canonical null; fits = fits; fine = λ at. (a_simple null_item tt, tt); is = refl }
    encodes (bool b) fits short each = record { item = canonical (bool b); fits = fits; fine = λ at. (a_simple (canonical_bool b) (bool_written b), tt); is = refl }
    encodes (integer (pos n)) fits short each = record { item = canonical (integer (pos n)); fits = fits; fine = λ at. (a_number 0 n, tt); is = refl }
    encodes (integer (negsuc n)) fits short each = record { item = canonical (integer (negsuc n)); fits = fits; fine = λ at. (a_number 1 n, tt); is = refl }
    encodes (float w bits) fits short each = record { item = raw.float w bits; fits = fits; fine = λ at. (a_float w bits short, tt); is = refl }
    encodes (bytes b) fits short each = record { item = canonical (bytes b); fits = fits; fine = λ at. (a_number 2 (length b), tt); is = refl }
    encodes (text b) fits short each = record { item = canonical (text b); fits = fits; fine = λ at. (a_number 3 (length b), tt); is = refl }
    encodes (array vs) fits short each = array_encoded vs fits (all_encode vs fits.1 short each)
    encodes (map ps) fits short each = map_encoded ps fits each.0 (pairs_encode ps fits.1 short each.1)
    encodes (tag n v) fits short each = tag_encoded n v fits.0 (encodes v fits.1 short each)

    all_encode : (vs : Vals) → AreWellFormed (canonical_all vs) → HaveShortestFloats vs → AllKeysApart vs → AreEncoded vs
    all_encode no_vals fits short each = record { items = no_raws; fits = tt; fine = λ at. tt; counted = refl; is = refl }
    all_encode (val v vs) fits short each =
        let one = encodes v fits.0 short.0 each.0 in
        let rest = all_encode vs fits.1 short.1 each.1 in
        record {
          items = raw.raw one.item rest.items;
          fits = (one.fits, rest.fits);
          fine = λ at. both_fine all (features at one.item) (all_features (at + length (spell one.item)) rest.items) (one.fine at) (rest.fine (at + length (spell one.item)));
          counted = omega (arith, rest.counted);
          is = ap₂ (λ (a b : List ℕ). a ++ b) one.is rest.is;
        }

    pairs_encode : (ps : Pairs) → ArePairsWellFormed (canonical_pairs ps) → PairsHaveShortestFloats ps → PairKeysApart ps → AreCodes (encoded ps)
    pairs_encode no_pairs fits short each = tt
    pairs_encode (pair k v ps) fits short each = (encodes k fits.0 short.0 each.0, encodes v fits.1 short.1 each.1, pairs_encode ps fits.2 short.2 each.2)

-- ---- keys that are encoded apart, since what is encoded is read back

mutual
  unfolding canonical

  in_memory : (v : Val) → IsWellFormed (canonical v) → EachText IsUtf8 (canonical v) → IsInMemory v
  in_memory null fits texts = tt
  in_memory (bool b) fits texts = tt
  in_memory (integer z) fits texts = tt
  in_memory (float w bits) fits texts = fits
  in_memory (bytes b) fits texts = (omega (arith, fits.0, limit-le (least (length b))), fits.1)
  in_memory (text b) fits texts = ((omega (arith, fits.0, limit-le (least (length b))), fits.1), texts)
  in_memory (array vs) fits texts = (omega (arith, fits.0, count_canonical vs, limit-le (least (raw.count (canonical_all vs)))), all_in_memory vs fits.1 texts)
  in_memory (map ps) fits texts = (omega (arith, fits.0, pair_count_canonical ps, limit-le (least (raw.pair_count (canonical_pairs ps)))), pairs_in_memory ps fits.1 texts)
  in_memory (tag n v) fits texts = (omega (arith, fits.0, limit-le (least n)), in_memory v fits.1 texts)

  all_in_memory : (vs : Vals) → AreWellFormed (canonical_all vs) → EachTextOfAll IsUtf8 (canonical_all vs) → AreInMemory vs
  all_in_memory no_vals fits texts = tt
  all_in_memory (val v vs) fits texts = (in_memory v fits.0 texts.0, all_in_memory vs fits.1 texts.1)

  pairs_in_memory : (ps : Pairs) → ArePairsWellFormed (canonical_pairs ps) → EachTextOfPairs IsUtf8 (canonical_pairs ps) → ArePairsInMemory ps
  pairs_in_memory no_pairs fits texts = tt
  pairs_in_memory (pair k v ps) fits texts = (in_memory k fits.0 texts.0, in_memory v fits.1 texts.1, pairs_in_memory ps fits.2 texts.2)

same_value : (b : List ℕ) (k l : Val) → SpellsValue b k → SpellsValue b l → k ≡ l
same_value b k l s t =
    s.valued
    ∙ ap value (one_item b s.item t.item s.acceptable.fits t.acceptable.fits s.spelled t.spelled)
    ∙ sym t.valued

-- the keys' encodings are read back
abbrev AreRead : Pairs → Type 0
AreRead no_pairs = Unit {0}
AreRead (pair k v ps) = SpellsValue (length_first k) k × AreRead ps

key_apart : (k : Val) (ps : Pairs) → SpellsValue (length_first k) k → IsBelow k ps → KeysAscend ps → AreRead ps → IsApart (length_first k) ps
key_apart k no_pairs read below ascend each = tt
key_apart k (pair l w ps) read below ascend each = (
  λ is. less_apart k l below (same_value (length_first l) k l (subst (λ (b : List ℕ). SpellsValue b k) is read) each.0),
  key_apart k ps read (IsBelow-trans k l ps below ascend.0) ascend.1 each.1,
)

are_apart : (ps : Pairs) → KeysAscend ps → AreRead ps → AreApart ps
are_apart no_pairs ascend each = tt
are_apart (pair k v ps) ascend each = (key_apart k ps each.0 ascend.0 ascend.1 each.1, are_apart ps ascend.1 each.1)

abbrev pub ReadsBack : Type 0
ReadsBack = (v : Val) → IsStorable v → IsOrdered v → IsInMemory v → depth (canonical v) ≤ max_depth → SpellsValue (length_first v) v

module _ (reads : ReadsBack) where
  mutual
    unfolding canonical

    keys_apart : (v : Val) → IsStorable v → IsOrdered v → IsInMemory v → depth (canonical v) ≤ max_depth → KeysApart v
    keys_apart null st or mem nests = tt
    keys_apart (bool b) st or mem nests = tt
    keys_apart (integer z) st or mem nests = tt
    keys_apart (float w bits) st or mem nests = tt
    keys_apart (bytes b) st or mem nests = tt
    keys_apart (text b) st or mem nests = tt
    keys_apart (array vs) st or mem nests = all_keys_apart vs st or mem.1 (omega arith)
    keys_apart (map ps) st or mem nests = (
      are_apart ps (KeysAscend-from_IsOrdered ps or) (are_read ps st or mem.1 (omega arith)),
      pair_keys_apart ps st or mem.1 (omega arith),
    )
    keys_apart (tag n v) st or mem nests = keys_apart v st or mem.1 (omega arith)

    all_keys_apart : (vs : Vals) → AreStorable vs → AreOrdered vs → AreInMemory vs → raw.depth_all (canonical_all vs) ≤ max_depth → AllKeysApart vs
    all_keys_apart no_vals st or mem nests = tt
    all_keys_apart (val v vs) st or mem nests = (keys_apart v st.0 or.0 mem.0 (omega arith), all_keys_apart vs st.1 or.1 mem.1 (omega arith))

    pair_keys_apart : (ps : Pairs) → ArePairsStorable ps → ArePairsOrdered ps → ArePairsInMemory ps → raw.depth_pairs (canonical_pairs ps) ≤ max_depth → PairKeysApart ps
    pair_keys_apart no_pairs st or mem nests = tt
    pair_keys_apart (pair k v ps) st or mem nests = (
      keys_apart k st.0 or.1 mem.0 (omega arith),
      keys_apart v st.1 or.2 mem.1 (omega arith),
      pair_keys_apart ps st.2 or.3 mem.2 (omega arith),
    )

    are_read : (ps : Pairs) → ArePairsStorable ps → ArePairsOrdered ps → ArePairsInMemory ps → raw.depth_pairs (canonical_pairs ps) ≤ max_depth → AreRead ps
    are_read no_pairs st or mem nests = tt
    are_read (pair k v ps) st or mem nests = (reads k st.0 or.1 mem.0 (omega arith), are_read ps st.2 or.3 mem.2 (omega arith))

-- ---- the law

from_item : (bs : List ℕ) (v : Val) (spelt : SpellsValue bs v) → bs ≡ length_first v → IsEncoded (length_first v) → Keeps (only all) spelt.item
from_item bs v spelt is one =
    let same = one_item bs spelt.item one.item spelt.acceptable.fits one.fits spelt.spelled (one.is ∙ sym is) in
    fine_kept all spelt.item (subst (λ (r : Raw). AreFine all (features 0 r)) (sym same) (one.fine 0))

module _ (reads : ReadsBack) (apart : ApartFloats) where
  pub written_is_accepted : WrittenIsAccepted presets.length_first IsLengthFirstOf
  written_is_accepted bs v short spelt is =
      let good = subst (λ (v : Val). IsStorable v × IsOrdered v × IsAcceptableWithin max_depth (canonical v)) (sym spelt.valued)
      (value_is_canonical max_depth spelt.item spelt.acceptable (subst (λ (bs : List ℕ). length bs < 2 ^ 64) (sym spelt.spelled) short)) in
      let each = keys_apart reads v good.0 good.1 (in_memory v good.2.fits good.2.texts) good.2.nests in
      from_item bs v spelt is.1 (encodes apart v good.2.fits is.0 each)
