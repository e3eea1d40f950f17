-- Which features break a rule, which items keep the rules that are on, and the first departure.
use Rattle.std.specs.Prelude.{◌≡◌, ℕ, ◌≤◌, ◌/◌, ◌^◌, Bool, true, false, List, [], ◌∷◌, Option, Some, None}
use Rattle.std.specs.Prelude.{Result, Ok, Err}
use Rattle.std.specs.Prelude.{◌&&◌, ◌||◌, ◌==◌, not, nat_le, nat_lt, is_some, if◌then◌else◌, length}
use Rattle.std.specs.Prelude.{slice_index, refl}
use Rattle.std.specs.List.{AllByRecursion, Contains, list_any}
use Rattle.std.specs.Ordering.{is_eq, ordering_then, nat_cmp}
use Rattle.std.specs.declared.cmp.Ordering.{Ordering}
use Rattle.std.specs.declared.cmp.Ordering.TheVariants.{Less, Equal, Greater}
use Rattle.cbor_model.specs.Head.{HeadWidth, no_bytes, one_byte, two_bytes, four_bytes, eight_bytes}
use Rattle.cbor_model.specs.Head.{limit}
use Rattle.cbor_model.specs.Raw.{Raw, FloatWidth, half, single, null_item, undefined_item}
use Rattle.cbor_model.specs.Raw.{unsigned, negative, array, map, tag, simple, float}
use Rattle.cbor_model.specs.Raw.{definite, indefinite, raw, no_raws, no_raw_pairs, raw_pair}
use Rattle.std.specs.Float.Ieee.{fits, odd, of_bits, of_fields, to_bits}
use Rattle.cbor_model.specs.Plain as plain
use Rattle.cbor_model.specs.Plain.{Val}
use Rattle.cbor_model.specs.Canonical.{canon, canonical}
use Rattle.cbor_model.specs.Order.{lex}
use Rattle.cbor_model.specs.Reader.{Fault, read_value, read_value_in, item_at, item_by, byte_at}
use Rattle.cbor_model.specs.Reader.{after_first, content_at, number_behind}
use Rattle.cbor_model.specs.Spelling.{spell}
use Rattle.cbor_value.specs.Floats as floats
use Rattle.cbor_value.specs.Shortest.{shortest}
use Rattle.cbor_forms.specs.Reduced.{integer_of}
use Rattle.cbor_forms.specs.LengthFirst.{by_length}
use Rattle.cbor_rules.specs.Features.{Feature, number, indefinite_length, simple_item, float_bits, key}
use Rattle.cbor_rules.specs.Features.{nth_item, chunk_to, Place, features}
use Rattle.cbor_rules.specs.declared.settings.Rules.{Rules}
use Rattle.cbor_rules.specs.declared.settings.KeyOrder.{KeyOrder}
use Rattle.cbor_rules.specs.declared.settings.KeyOrder.TheVariants.{Any, Unique, Bytewise, LengthFirst}
use Rattle.cbor_rules.specs.declared.settings.KeyOrder.TheVariants.{TypeFirst}
use Rattle.cbor_rules.specs.declared.settings.Rule.{Rule}
use Rattle.cbor_rules.specs.declared.settings.Rule.TheVariants.{ShortestHeads, DefiniteLengths}
use Rattle.cbor_rules.specs.declared.settings.Rule.TheVariants.{PlainKeys, AscendingKeys, OneNan}
use Rattle.cbor_rules.specs.declared.settings.Rule.TheVariants.{UniqueKeys, ReducedNumbers}
use Rattle.cbor_rules.specs.declared.settings.Rule.TheVariants.{ShortestFloats, NoUndefined, NoTags}
use Rattle.cbor_rules.specs.declared.settings.Rule.TheVariants.{MostItems, MostPairs, MostBytes}
use Rattle.cbor_rules.specs.declared.answers.Departure.{Departure}

-- a number below this fits a narrower width
abbrev pub floor : HeadWidth → ℕ
floor no_bytes = 0
floor one_byte = limit no_bytes
floor two_bytes = limit one_byte
floor four_bytes = limit two_bytes
floor eight_bytes = limit four_bytes

-- the width of a float
abbrev pub float_size : Val → ℕ
float_size (plain.float half bits) = 16
float_size (plain.float single bits) = 32
float_size _ = 64

-- f9 7e 00
abbrev pub is_quiet_nan : Val → Bool
is_quiet_nan (plain.float half bits) = bits == 0x7e00
is_quiet_nan _ = false

-- a narrower float is the same number
abbrev pub is_wide : FloatWidth → ℕ → Bool
is_wide w bits = nat_lt (float_size (shortest (floats.number w bits))) (float_size (plain.float w bits))

-- a NaN but f9 7e 00, which is each NaN at its shortest
abbrev pub is_other_nan : FloatWidth → ℕ → Bool
is_other_nan w bits =
    is_quiet_nan (shortest (floats.number w bits)) && not (is_quiet_nan (plain.float w bits))

-- the major type of what is encoded so
abbrev pub major : List ℕ → ℕ
major bs = slice_index bs 0 / 32

-- the orders of keys by their encodings
abbrev pub key_cmp : KeyOrder → List ℕ → List ℕ → Ordering
key_cmp Any a b = Less
key_cmp Unique a b = Less
key_cmp Bytewise a b = lex a b
key_cmp LengthFirst a b = by_length a b
key_cmp TypeFirst a b = ordering_then (nat_cmp (major a) (major b)) (by_length a b)

abbrev pub is_less : Ordering → Bool
is_less Less = true
is_less Equal = false
is_less Greater = false

-- the encoding of the latest of the keys, or none
abbrev pub latest : List (List ℕ) → List ℕ
latest [] = []
latest (k ∷ ks) = k

-- whether each value may be a key of a map once, in any order
abbrev pub is_unique : KeyOrder → Bool
is_unique Unique = true
is_unique _ = false

abbrev canon_or : List ℕ → Result Val Fault → List ℕ
canon_or k (Ok v) = canon v
canon_or k (Err f) = k

-- the canonical encoding of the value that a key encodes; bytes that encode none stand for themselves
abbrev pub canonical_key : List ℕ → List ℕ
canonical_key k = canon_or k (read_value k)

-- these are the canonical encoding of one of the keys' values
abbrev pub has_key : List (List ℕ) → List ℕ → Bool
has_key keys bytes = list_any (λ k. is_eq (lex (canonical_key k) bytes)) keys

-- one of the earlier keys is of the same value
abbrev pub is_repeated : List (List ℕ) → List ℕ → Bool
is_repeated earlier k = has_key earlier (canonical_key k)

-- the key is an array, a map or a tag
abbrev pub is_compound : List ℕ → Bool
is_compound k = nat_lt 3 (major k) && nat_lt (major k) 7

-- Rules, and the tags that stand where tags are refused.
pub record Terms : Type 0 where
  pub rules : Rules
  pub tags : List ℕ

abbrev pub under : Rules → List ℕ → Terms
under rules tags = record { rules = rules; tags = tags }

-- where tags are refused, each is
abbrev pub only : Rules → Terms
only rules = under rules []

abbrev pub is_among : ℕ → List ℕ → Bool
is_among n tags = list_any (λ m. m == n) tags

-- there is a limit, and so many are more
abbrev pub exceeds : Option ℕ → ℕ → Bool
exceeds None n = false
exceeds (Some most) n = nat_lt most n

-- there is a limit, and after so many no other may come
abbrev pub is_reached : Option ℕ → ℕ → Bool
is_reached None n = false
is_reached (Some most) n = nat_le most n

-- whether a rule is on, and this feature breaks it
abbrev pub breaks : Terms → Rule → Feature → Bool
breaks terms ShortestHeads (number m w n) = nat_lt n (floor w) && terms.rules.shortest_heads
breaks terms NoTags (number m w n) =
    (m == 6) && (not (is_among n terms.tags) && terms.rules.no_tags)
breaks terms DefiniteLengths indefinite_length = terms.rules.definite_lengths
breaks terms NoUndefined (simple_item undefined_item) = terms.rules.no_undefined
breaks terms ReducedNumbers (number m w n) =
    terms.rules.reduced_numbers && ((m == 1) && nat_le (2 ^ 63) n)
breaks terms ReducedNumbers (float_bits w bits) =
    terms.rules.reduced_numbers && is_some (integer_of (floats.number w bits))
breaks terms ShortestFloats (float_bits w bits) = terms.rules.shortest_floats && is_wide w bits
breaks terms OneNan (float_bits w bits) = terms.rules.one_nan && is_other_nan w bits
breaks terms PlainKeys (key earlier k) = terms.rules.plain_keys && is_compound k
breaks terms AscendingKeys (key earlier k) =
    not (is_less (key_cmp terms.rules.keys (latest earlier) k))
breaks terms UniqueKeys (key earlier k) = is_unique terms.rules.keys && is_repeated earlier k
breaks terms MostItems (number m w n) = (m == 4) && exceeds terms.rules.most_items n
breaks terms MostItems (nth_item earlier) = is_reached terms.rules.most_items earlier
breaks terms MostPairs (number m w n) = (m == 5) && exceeds terms.rules.most_pairs n
breaks terms MostPairs (key earlier k) = is_reached terms.rules.most_pairs (length earlier)
breaks terms MostBytes (number m w n) =
    ((m == 2) || (m == 3)) && exceeds terms.rules.most_bytes n
breaks terms MostBytes (chunk_to n) = exceeds terms.rules.most_bytes n
breaks terms _ _ = false

-- at each of the places the rule is kept, or it is off
abbrev pub KeepsRule : Terms → Rule → Raw → Type 0
KeepsRule terms rule item = AllByRecursion (λ p. breaks terms rule p.feature ≡ false) (features 0 item)

-- the item keeps each rule that is on
abbrev pub Keeps : Terms → Raw → Type 0
Keeps terms item = (rule : Rule) → KeepsRule terms rule item

-- ---- the first departure

-- the first of these terms that the feature breaks
abbrev pub first_broken : Terms → Feature → List Rule → Option Rule
first_broken terms f [] = None
first_broken terms f (rule ∷ others) =
    if breaks terms rule f then Some rule else first_broken terms f others

-- each rule
abbrev pub all_rules : List Rule
all_rules =
    MostItems ∷ MostPairs ∷ MostBytes ∷ ShortestHeads ∷ DefiniteLengths ∷ PlainKeys ∷ AscendingKeys
    ∷ UniqueKeys ∷ ReducedNumbers ∷ ShortestFloats ∷ OneNan ∷ NoUndefined ∷ NoTags ∷ []

abbrev pub broken : Terms → Feature → Option Rule
broken terms f = first_broken terms f all_rules

abbrev pub departure_or : ℕ → Option Departure → Option Rule → Option Departure
departure_or at others None = others
departure_or at others (Some rule) = Some (record { rule = rule; offset = at })

-- the first place where a rule is broken
abbrev pub departure_in : Terms → List Place → Option Departure
departure_in terms [] = None
departure_in terms (p ∷ ps) =
    departure_or p.offset (departure_in terms ps) (broken terms p.feature)

-- the item's first departure, in the order of its bytes
unfoldable pub first_departure : Terms → Raw → Option Departure
first_departure terms item = departure_in terms (features 0 item)

-- The departure is at one of the places, which breaks its rule; and no place before that breaks any.
pub record IsFirst (terms : Terms) (places : List Place) (d : Departure) : Type 0 where
  pub place : Place
  pub among : Contains places place
  pub there : place.offset ≡ d.offset
  pub breaks_rule : breaks terms d.rule place.feature ≡ true
  pub first : AllByRecursion
      (λ p. (rule : Rule) → breaks terms rule p.feature ≡ true → d.offset ≤ p.offset) places

-- ---- the laws

-- An item departs nowhere exactly where it keeps each rule that is on.
abbrev pub NoneWhereKept : Type 0
NoneWhereKept = (terms : Terms) (item : Raw)
    → (first_departure terms item ≡ None → Keeps terms item)
    × (Keeps terms item → first_departure terms item ≡ None)

-- The first departure is at the first place that breaks a rule: there is none at a lesser offset.
abbrev pub FirstIsLeast : Type 0
FirstIsLeast = (terms : Terms) (item : Raw) (d : Departure)
    → first_departure terms item ≡ Some d → IsFirst terms (features 0 item) d

-- ---- examples

-- no rule but the order of keys
abbrev keys_only : KeyOrder → Rules
keys_only order = record {
  keys = order;
  plain_keys = false;
  shortest_heads = false;
  definite_lengths = false;
  reduced_numbers = false;
  shortest_floats = false;
  one_nan = false;
  no_undefined = false;
  no_tags = false;
  most_items = None;
  most_pairs = None;
  most_bytes = None;
}

-- a2 18 64 f6 20 f6, of RFC 8949, 4.2.1: 20 is above 18 64 by its bytes, and shorter
abbrev hundred_first : Raw
hundred_first = map (definite no_bytes)
    (raw_pair (unsigned one_byte 100) (simple null_item)
    (raw_pair (negative no_bytes 0) (simple null_item)
    no_raw_pairs))

above_by_bytes : first_departure (only (keys_only Bytewise)) hundred_first ≡ None
unfolding first_departure features spell
above_by_bytes = refl

not_by_length : first_departure (only (keys_only LengthFirst)) hundred_first
    ≡ Some (record { rule = AscendingKeys; offset = 5 })
unfolding first_departure features spell
not_by_length = refl

-- 82 f7 18 17: undefined, and a head that isn't the shortest
undefined_first : first_departure
    (only (record (keys_only Any) { no_undefined = true; shortest_heads = true }))
    (array (definite no_bytes) (raw (simple undefined_item) (raw (unsigned one_byte 23) no_raws)))
    ≡ Some (record { rule = NoUndefined; offset = 2 })
unfolding first_departure features spell
undefined_first = refl

-- fa 3f c0 00 00, which is 1.5
one_and_a_half_wide : first_departure (only (record (keys_only Any) { shortest_floats = true }))
    (float single 0x3fc0_0000)
    ≡ Some (record { rule = ShortestFloats; offset = 5 })
unfolding first_departure features shortest of_bits of_fields odd fits to_bits
one_and_a_half_wide = refl

-- f9 3c 00, which is 1, and 3b 80 00 00 00 00 00 00 00, which is below -2^63
one_as_float : first_departure
    (only (record (keys_only Any) { reduced_numbers = true; shortest_floats = true }))
    (float half 0x3c00)
    ≡ Some (record { rule = ReducedNumbers; offset = 3 })
unfolding first_departure features shortest floats.half_number of_bits of_fields odd fits to_bits
one_as_float = refl

too_low : first_departure (only (record (keys_only Any) { reduced_numbers = true }))
    (negative eight_bytes (2 ^ 63))
    ≡ Some (record { rule = ReducedNumbers; offset = 9 })
unfolding first_departure features
too_low = refl

-- a2 01 f6 18 01 f6, whose keys are two encodings of 1
abbrev two_ones : Raw
two_ones = map (definite no_bytes)
    (raw_pair (unsigned no_bytes 1) (simple null_item)
    (raw_pair (unsigned one_byte 1) (simple null_item)
    no_raw_pairs))

one_twice : first_departure (only (keys_only Unique)) two_ones
    ≡ Some (record { rule = UniqueKeys; offset = 5 })
unfolding first_departure features spell canon canonical read_value_in item_at item_by byte_at after_first content_at number_behind
one_twice = refl

-- f9 7e 01
other_nan : first_departure
    (only (record (keys_only Any) { shortest_floats = true; one_nan = true }))
    (float half 0x7e01)
    ≡ Some (record { rule = OneNan; offset = 3 })
unfolding first_departure features shortest floats.half_number of_bits of_fields odd fits to_bits
other_nan = refl

-- a1 81 00 f6, whose key is an array
array_as_key : first_departure (only (record (keys_only Any) { plain_keys = true }))
    (map (definite no_bytes)
    (raw_pair (array (definite no_bytes) (raw (unsigned no_bytes 0) no_raws)) (simple null_item)
    no_raw_pairs))
    ≡ Some (record { rule = PlainKeys; offset = 3 })
unfolding first_departure features spell
array_as_key = refl

-- c1 c2 00, where tag 1 stands
other_tag : first_departure (under (record (keys_only Any) { no_tags = true }) (0 ∷ 1 ∷ []))
    (tag no_bytes 1 (tag no_bytes 2 (unsigned no_bytes 0)))
    ≡ Some (record { rule = NoTags; offset = 2 })
unfolding first_departure features spell
other_tag = refl

-- 9f 00 01 ff, of two items
one_too_many : first_departure (only (record (keys_only Any) { most_items = Some 1 }))
    (array indefinite (raw (unsigned no_bytes 0) (raw (unsigned no_bytes 1) no_raws)))
    ≡ Some (record { rule = MostItems; offset = 3 })
unfolding first_departure features spell
one_too_many = refl
