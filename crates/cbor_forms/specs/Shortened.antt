-- Values with each number as a form writes it.
use Rattle.std.specs.Prelude.{◌≡◌, ◌⊎◌, ℕ, ℤ, List, codes, pos, refl}
use Rattle.std.specs.Float.Ieee as ieee
use Rattle.std.specs.Float.Ieee.{fits, odd, of_bits, of_fields, to_bits}
use Rattle.std.specs.String.{string_bytes}
use Rattle.cbor_model.specs.Plain.{Val, integer, float, array, map, tag, Vals, no_vals, val}
use Rattle.cbor_model.specs.Plain.{Pairs, no_pairs, pair}
use Rattle.cbor_model.specs.FiniteMap.{put_all}
use Rattle.cbor_io.specs.declared.error.Error.{Error}
use Rattle.cbor_io.specs.declared.error.ErrorCode.{ErrorCode}
use Rattle.cbor_io.specs.declared.error.ErrorCode.TheVariants.{Message, OutOfMemory}
use Rattle.cbor_io.specs.Error.{code_of, offset_of}
use Rattle.cbor_model.specs.Raw.{half, single}
use Rattle.cbor_model.specs.Order.{flat}
use Rattle.cbor_value.specs.Floats.{number, half_number}
use Rattle.cbor_value.specs.Shortest.{shortest}
use Rattle.cbor_forms.specs.Reduced.{reduced_number, IsReducedInteger}
use Rattle.cbor_forms.specs.declared.values.Form.{Form}
use Rattle.cbor_forms.specs.declared.values.Form.TheVariants.{Core, Dcbor}

-- what a float of this number is in a form
abbrev pub in_form : Form → ieee.Float → Val
in_form Core x = shortest x
in_form Dcbor x = reduced_number x

-- Each float of the value, in its keys too, as in the form. A map's pairs are put in the order of
-- their keys anew, since that may change with a key's encoding.
unfoldable mutual
  pub rewritten : Form → Val → Val
  rewritten form (float w bits) = in_form form (number w bits)
  rewritten form (array vs) = array (all_rewritten form vs)
  rewritten form (map ps) = map (put_all (pairs_rewritten form ps) no_pairs)
  rewritten form (tag n v) = tag n (rewritten form v)
  rewritten form v = v

  pub all_rewritten : Form → Vals → Vals
  all_rewritten form no_vals = no_vals
  all_rewritten form (val v vs) = val (rewritten form v) (all_rewritten form vs)

  pub pairs_rewritten : Form → Pairs → Pairs
  pairs_rewritten form no_pairs = no_pairs
  pairs_rewritten form (pair k v ps) =
      pair (rewritten form k) (rewritten form v) (pairs_rewritten form ps)

-- with each float at its shortest
abbrev pub shortened : Val → Val
shortened v = rewritten Core v

-- with dCBOR's numbers
abbrev pub reduced : Val → Val
reduced v = rewritten Dcbor v

-- {2.0 of 16 bits: 2, 1.5 of 32 bits: 1} is {1.5 of 16 bits: 1, 2.0 of 16 bits: 2}
keys_in_order_anew : shortened (map
    (pair (float half 0x4000) (integer (pos 2))
    (pair (float single 0x3fc0_0000) (integer (pos 1)) no_pairs)))
    ≡ map
    (pair (float half 0x3e00) (integer (pos 1))
    (pair (float half 0x4000) (integer (pos 2)) no_pairs))
unfolding rewritten shortest half_number of_bits of_fields odd fits to_bits flat
keys_in_order_anew = refl

-- in dCBOR it is {2: 2, 1.5 of 16 bits: 1}
integer_first : reduced (map
    (pair (float single 0x3fc0_0000) (integer (pos 1))
    (pair (float half 0x4000) (integer (pos 2)) no_pairs)))
    ≡ map
    (pair (integer (pos 2)) (integer (pos 2))
    (pair (float half 0x3e00) (integer (pos 1)) no_pairs))
unfolding rewritten shortest half_number of_bits of_fields odd fits to_bits flat
integer_first = refl

-- ---- what can be rewritten

-- one of the pairs has this key
abbrev pub IsKeyOf : Val → Pairs → Type 0
IsKeyOf k no_pairs = ⊥
IsKeyOf k (pair l w ps) = (k ≡ l) ⊎ IsKeyOf k ps

-- no two of the pairs have one key
abbrev pub AreDistinct : Pairs → Type 0
AreDistinct no_pairs = Unit {0}
AreDistinct (pair k v ps) = ¬ (IsKeyOf k ps) × AreDistinct ps

-- an integer that the form has
abbrev pub IsIntegerIn : Form → ℤ → Type 0
IsIntegerIn Core z = Unit {0}
IsIntegerIn Dcbor z = IsReducedInteger z

-- The form has each integer of the value, and in each of its maps the keys are still distinct once
-- its floats are as in the form.
abbrev mutual
  pub Allows : Form → Val → Type 0
  Allows form (integer z) = IsIntegerIn form z
  Allows form (array vs) = AllowsAll form vs
  Allows form (map ps) = AreDistinct (pairs_rewritten form ps) × AllowsPairs form ps
  Allows form (tag n v) = Allows form v
  Allows form _ = Unit {0}

  pub AllowsAll : Form → Vals → Type 0
  AllowsAll form no_vals = Unit {0}
  AllowsAll form (val v vs) = Allows form v × AllowsAll form vs

  pub AllowsPairs : Form → Pairs → Type 0
  AllowsPairs form no_pairs = Unit {0}
  AllowsPairs form (pair k v ps) = Allows form k × Allows form v × AllowsPairs form ps

-- no two keys of a map become one with floats at their shortest
abbrev pub KeepsKeys : Val → Type 0
KeepsKeys v = Allows Core v

-- no two keys of a map become one as dCBOR's numbers, and no integer is below -2^63
abbrev pub IsReducible : Val → Type 0
IsReducible v = Allows Dcbor v

-- ---- what is refused

-- the words of two keys that become one
abbrev pub equal_keys : Form → List ℕ
equal_keys Core = codes "Two keys of a map are equal with floats at their shortest"
equal_keys Dcbor = codes "Two keys of a map are equal as dCBOR's numbers"

-- of those words, and of an integer that the form doesn't have
abbrev pub IsReason : Form → List ℕ → Type 0
IsReason Core text = text ≡ equal_keys Core
IsReason Dcbor text = (text ≡ equal_keys Dcbor) ⊎ (text ≡ codes "An integer is below -2^63")

-- a reason, or no memory for it
abbrev pub IsReasonCode : Form → ErrorCode → Type 0
IsReasonCode form (Message text) = IsReason form (string_bytes text)
IsReasonCode form OutOfMemory = Unit {0}
IsReasonCode form _ = ⊥

abbrev pub SaysReason : Form → Error → Type 0
SaysReason form e = IsReasonCode form (code_of e) × (offset_of e ≡ 0)

-- What is refused with this code is so for lack of memory, or because the form doesn't allow it.
abbrev pub IsRefusedBy : Form → ErrorCode → Type 0 → Type 0
IsRefusedBy form (Message text) allows = IsReasonCode form (Message text) × ¬ allows
IsRefusedBy form OutOfMemory allows = Unit {0}
IsRefusedBy form _ allows = ⊥

abbrev pub IsNotRewritten : Form → Type 0 → Error → Type 0
IsNotRewritten form allows e = IsRefusedBy form (code_of e) allows × (offset_of e ≡ 0)
