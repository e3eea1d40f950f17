-- The presets of rules, and what their writers write.
use Rattle.std.specs.Prelude.{◌≡◌, ℕ, ◌^◌, ◌<◌, ◌≤◌, true, false, List, [], ◌∷◌, length, None}
use Rattle.std.specs.Prelude.{Result, MatchResult, refl}
use Rattle.std.specs.Float.{nan}
use Rattle.std.specs.Float.Ieee.{fits, odd, of_bits, of_fields, to_bits}
use Rattle.std.specs.declared.cmp.Ordering.TheVariants.{Less}
use Rattle.cbor_model.specs.Acceptable.{max_depth}
use Rattle.cbor_model.specs.Canonical as model
use Rattle.cbor_model.specs.Canonical.{canon, IsStorable}
use Rattle.cbor_model.specs.InRange.{IsInRange}
use Rattle.cbor_model.specs.Laws.{SpellsValue}
use Rattle.cbor_model.specs.Order.{lex}
use Rattle.cbor_model.specs.Plain.{Val, integer, float, array, map, tag, Vals, no_vals, val}
use Rattle.cbor_model.specs.Plain.{Pairs, no_pairs, pair}
use Rattle.cbor_model.specs.Raw.{FloatWidth, half, single, depth}
use Rattle.cbor_value.specs.Floats.{number, half_number}
use Rattle.cbor_value.specs.Shortest.{shortest}
use Rattle.cbor_value.specs.View.{view}
use Rattle.cbor_value.specs.declared.Value.{Value}
use Rattle.cbor_forms.specs.LengthFirst as forms
use Rattle.cbor_forms.specs.Reduced.{integer_of, IsReducedInteger}
use Rattle.cbor_forms.specs.Shortened.{shortened, reduced, IsReducible}
use Rattle.cbor_rules.specs.Answers.{IsMemory}
use Rattle.cbor_rules.specs.Rules.{Keeps, key_cmp, only}
use Rattle.cbor_rules.specs.declared.answers.Refusal.{Refusal}
use Rattle.cbor_rules.specs.declared.settings.Rules.{Rules}
use Rattle.cbor_rules.specs.declared.settings.KeyOrder.TheVariants.{Any, Unique, Bytewise, LengthFirst}
use Rattle.cbor_rules.specs.declared.settings.KeyOrder.TheVariants.{TypeFirst}

-- no rule
abbrev pub any_item : Rules
any_item = record {
  keys = Any;
  plain_keys = false;
  shortest_heads = false;
  definite_lengths = false;
  reduced_numbers = false;
  shortest_floats = false;
  one_nan = false;
  no_undefined = false;
  no_tags = false;
  most_items = None;
  most_pairs = None;
  most_bytes = None;
}

-- no key of a map twice (RFC 8949, section 5.6; RFC 9052, section 9)
abbrev pub unique_keys : Rules
unique_keys = record any_item { keys = Unique }

-- shortest heads, definite lengths, keys in the order of their bytes, and nothing undefined
abbrev pub canonical : Rules
canonical = record any_item {
  keys = Bytewise;
  shortest_heads = true;
  definite_lengths = true;
  no_undefined = true;
}

-- RFC 8949, section 4.2.1, with one NaN as by section 4.2.2, and nothing undefined, which no value
-- is written as
abbrev pub deterministic : Rules
deterministic = record any_item {
  keys = Bytewise;
  shortest_heads = true;
  definite_lengths = true;
  shortest_floats = true;
  one_nan = true;
  no_undefined = true;
}

-- RFC 8949, section 4.2.3, and RFC 7049, section 3.9
abbrev pub length_first : Rules
length_first = record deterministic { keys = LengthFirst }

-- CTAP 2.1, section 8, and nothing undefined
abbrev pub ctap2 : Rules
ctap2 = record any_item {
  keys = TypeFirst;
  plain_keys = true;
  shortest_heads = true;
  definite_lengths = true;
  no_undefined = true;
  no_tags = true;
}

-- dCBOR (draft-mcnally-deterministic-cbor), but for the normalization of text
abbrev pub dcbor : Rules
dcbor = record deterministic { reduced_numbers = true }

-- ---- what is written

-- the bytes are what the value is written as canonically
abbrev pub IsCanonicalOf : List ℕ → Val → Type 0
IsCanonicalOf bytes v = bytes ≡ canon v

-- A float of this width and with these bits is at its shortest (RFC 8949, sections 4.2.1 and
-- 4.2.2): no narrower one is its number, and a NaN is f9 7e 00.
abbrev pub IsShortest : FloatWidth → ℕ → Type 0
IsShortest half bits = half_number bits ≡ nan → bits ≡ 0x7e00
IsShortest w bits = shortest (number w bits) ≡ float w bits

-- each float of the value is at its shortest
abbrev mutual
  pub HasShortestFloats : Val → Type 0
  HasShortestFloats (float w bits) = IsShortest w bits
  HasShortestFloats (array vs) = HaveShortestFloats vs
  HasShortestFloats (map ps) = PairsHaveShortestFloats ps
  HasShortestFloats (tag n v) = HasShortestFloats v
  HasShortestFloats _ = Unit {0}

  pub HaveShortestFloats : Vals → Type 0
  HaveShortestFloats no_vals = Unit {0}
  HaveShortestFloats (val v vs) = HasShortestFloats v × HaveShortestFloats vs

  pub PairsHaveShortestFloats : Pairs → Type 0
  PairsHaveShortestFloats no_pairs = Unit {0}
  PairsHaveShortestFloats (pair k v ps) =
      HasShortestFloats k × HasShortestFloats v × PairsHaveShortestFloats ps

-- the bytes are what the value is written as deterministically
abbrev pub IsDeterministicOf : List ℕ → Val → Type 0
IsDeterministicOf bytes v = HasShortestFloats v × (bytes ≡ canon v)

-- likewise with shorter keys first
abbrev pub IsLengthFirstOf : List ℕ → Val → Type 0
IsLengthFirstOf bytes v = HasShortestFloats v × (bytes ≡ forms.length_first v)

-- each number of the value is as dCBOR has it: no float is an integer in its range, and no integer
-- is out of it
abbrev mutual
  pub HasReducedNumbers : Val → Type 0
  HasReducedNumbers (integer z) = IsReducedInteger z
  HasReducedNumbers (float w bits) = integer_of (number w bits) ≡ None
  HasReducedNumbers (array vs) = HaveReducedNumbers vs
  HasReducedNumbers (map ps) = PairsHaveReducedNumbers ps
  HasReducedNumbers (tag n v) = HasReducedNumbers v
  HasReducedNumbers _ = Unit {0}

  pub HaveReducedNumbers : Vals → Type 0
  HaveReducedNumbers no_vals = Unit {0}
  HaveReducedNumbers (val v vs) = HasReducedNumbers v × HaveReducedNumbers vs

  pub PairsHaveReducedNumbers : Pairs → Type 0
  PairsHaveReducedNumbers no_pairs = Unit {0}
  PairsHaveReducedNumbers (pair k v ps) =
      HasReducedNumbers k × HasReducedNumbers v × PairsHaveReducedNumbers ps

-- the bytes are what the value is written as in dCBOR
abbrev pub IsDcborOf : List ℕ → Val → Type 0
IsDcborOf bytes v = HasReducedNumbers v × IsDeterministicOf bytes v

-- a number, a string or a simple value
abbrev pub IsPlain : Val → Type 0
IsPlain (array vs) = ⊥
IsPlain (map ps) = ⊥
IsPlain (tag n v) = ⊥
IsPlain _ = Unit {0}

-- The value has no tags, and each key of its maps is plain (CTAP 2.1, section 8, uses no others).
abbrev mutual
  pub IsForCtap2 : Val → Type 0
  IsForCtap2 (array vs) = AreForCtap2 vs
  IsForCtap2 (map ps) = ArePairsForCtap2 ps
  IsForCtap2 (tag n v) = ⊥
  IsForCtap2 _ = Unit {0}

  pub AreForCtap2 : Vals → Type 0
  AreForCtap2 no_vals = Unit {0}
  AreForCtap2 (val v vs) = IsForCtap2 v × AreForCtap2 vs

  pub ArePairsForCtap2 : Pairs → Type 0
  ArePairsForCtap2 no_pairs = Unit {0}
  ArePairsForCtap2 (pair k v ps) = IsPlain k × IsForCtap2 v × ArePairsForCtap2 ps

-- the bytes are what such a value is written as canonically
abbrev pub IsCtap2Of : List ℕ → Val → Type 0
IsCtap2Of bytes v = IsForCtap2 v × (bytes ≡ canon v)

-- ---- the laws

-- What is written so keeps the rules: where the bytes of an acceptable item are an encoding P of its
-- value, the item keeps them.
abbrev pub WrittenIsAccepted : Rules → (List ℕ → Val → Type 0) → Type 0
WrittenIsAccepted rules P = (bytes : List ℕ) (v : Val) → length bytes < 2 ^ 64
    → (spelt : SpellsValue bytes v) → P bytes v → Keeps (only rules) spelt.item

-- What keeps the rules is written so: where an acceptable item keeps them, its bytes are an
-- encoding P of its value.
abbrev pub AcceptedIsWritten : Rules → (List ℕ → Val → Type 0) → Type 0
AcceptedIsWritten rules P = (bytes : List ℕ) (v : Val) → length bytes < 2 ^ 64
    → (spelt : SpellsValue bytes v) → Keeps (only rules) spelt.item → P bytes v

-- What is written of a value, and read by the rules of its form, is this value, unless memory runs
-- out, where it nests at most 127 levels.
abbrev pub IsReadBack : Val → Result Value Refusal → Type 0
IsReadBack v result = depth (model.canonical v) ≤ max_depth → MatchResult result (λ x. view x ≡ v) IsMemory

-- What is written deterministically, or with shorter keys first, has its floats at their shortest.
abbrev pub ShortenedHasShortestFloats : Type 0
ShortenedHasShortestFloats = (v : Val) → HasShortestFloats (shortened v)

-- What is written in dCBOR has its numbers reduced, and its floats at their shortest.
abbrev pub ReducedHasReducedNumbers : Type 0
ReducedHasReducedNumbers = (v : Val) → IsReducible v
    → HasReducedNumbers (reduced v) × HasShortestFloats (reduced v)

-- CTAP2's order of keys is that of their bytes, for keys that are plain.
abbrev pub TypeFirstIsBytewise : Type 0
TypeFirstIsBytewise = (k l : Val) → IsPlain k → IsPlain l → IsStorable k → IsStorable l
    → IsInRange k → IsInRange l → key_cmp TypeFirst (canon k) (canon l) ≡ lex (canon k) (canon l)

-- ---- examples

-- 100000.0 of 32 bits; and 1.5 of 32 bits has a narrower one
hundred_thousand : HasShortestFloats (float single 0x47c3_5000)
unfolding shortest of_bits of_fields odd fits to_bits
hundred_thousand = refl

one_and_a_half : shortest (number single 0x3fc0_0000) ≡ float half 0x3e00
unfolding shortest of_bits of_fields odd fits to_bits
one_and_a_half = refl

-- of arrays, which CTAP2 doesn't use as keys, [0, 0] stands before the longer [1000], whose bytes
-- come first
arrays_otherwise : key_cmp TypeFirst (0x82 ∷ 0 ∷ 0 ∷ []) (0x81 ∷ 0x19 ∷ 0x03 ∷ 0xe8 ∷ []) ≡ Less
arrays_otherwise = refl
