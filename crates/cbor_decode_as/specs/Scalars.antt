-- Simple values and numbers.
use Rattle.std.specs.Prelude.{◌≡◌, ◌+◌, ◌-◌, ◌^◌, ℕ, suc, ℤ, pos, negsuc, T, true, false, refl}
use Rattle.std.specs.Float.{binary32, binary64, fin}
use Rattle.std.specs.Float.Ieee as ieee
use Rattle.std.specs.Float.Ieee.{fits, odd}
use Rattle.cbor_model.specs.Head.{one_byte, eight_bytes}
use Rattle.cbor_model.specs.Raw as raw
use Rattle.cbor_model.specs.Raw.{Raw, FloatWidth, half, single, double}
use Rattle.cbor_model.specs.Readable.{IsFloat}
use Rattle.cbor_decode.specs.declared.head.Head.{Head}
use Rattle.cbor_decode.specs.declared.head.Head.TheVariants as head
use Rattle.cbor_decode.specs.declared.head.Head.TheVariants.{Unsigned, Negative}
use Rattle.cbor_value.specs.Floats.{number, number_of, half_number}
use Rattle.cbor_value.specs.declared.Float.{Float}
use Rattle.cbor_value.specs.declared.Float.TheVariants.{Half, Single, Double}

abbrev pub float_parts : Float → FloatWidth × ℕ
float_parts (Half bits) = (half, bits)
float_parts (Single bits) = (single, bits)
float_parts (Double bits) = (double, bits)

abbrev pub IsFloatItem : Raw → Float → Type 0
IsFloatItem r f = IsFloat r (float_parts f)

-- An integer among the floats: ±m * 2^e with an odd m, or 0. `odd d s q k l` is q * 2^k / 2^l with
-- the sign s, for a q of at most d binary digits; `negsuc n` is -1 - n.
abbrev pub whole_number : ℤ → ieee.Float
whole_number (pos n) = odd 65 false n 0 0
whole_number (negsuc n) = odd 65 true (suc n) 0 0

-- exactly this integer, which an f64 holds
abbrev pub IsWhole : ℤ → ieee.Float → Type 0
IsWhole z x = (x ≡ whole_number z) × T (fits binary64 x)

-- a float of that number, whatever its width (of a NaN, any NaN), or an integer that is that number
abbrev pub IsFloatOf : Raw → ieee.Float → Type 0
IsFloatOf (raw.unsigned w n) x = IsWhole (pos n) x
IsFloatOf (raw.negative w n) x = IsWhole (negsuc n) x
IsFloatOf (raw.float w bits) x = number w bits ≡ x
IsFloatOf _ x = ⊥

-- which an f32 holds
abbrev pub IsSingleOf : Raw → ieee.Float → Type 0
IsSingleOf r x = IsFloatOf r x × T (fits binary32 x)

-- the number that a head is
abbrev pub IsNumber : Head → ℤ → Type 0
IsNumber (Unsigned n) z = z ≡ pos n
IsNumber (Negative n) z = z ≡ negsuc n
IsNumber _ z = ⊥

-- and by its head
abbrev pub IsFloatHead : Head → ieee.Float → Type 0
IsFloatHead (Unsigned n) x = IsWhole (pos n) x
IsFloatHead (Negative n) x = IsWhole (negsuc n) x
IsFloatHead (head.Float f) x = number_of f ≡ x
IsFloatHead _ x = ⊥

abbrev pub IsSingleHead : Head → ieee.Float → Type 0
IsSingleHead h x = IsFloatHead h x × T (fits binary32 x)

-- ---- examples

-- 1.5 of 16 bits
half_read : IsFloatOf (raw.float half 0x3e00) (fin false 3 (negsuc 0))
unfolding half_number odd
half_read = refl

-- 52 is 13 * 2^2, and 3b ffff ffff ffff ffff is -2^64
whole_read : IsFloatOf (raw.unsigned one_byte 52) (fin false 13 (pos 2))
unfolding odd fits
whole_read = (refl, tt)

least_read : IsFloatOf (raw.negative eight_bytes (2 ^ 64 - 1)) (fin true 1 (pos 64))
unfolding odd fits
least_read = (refl, tt)

-- an f64 doesn't hold 2^53 + 1
not_held : fits binary64 (whole_number (pos (2 ^ 53 + 1))) ≡ false
unfolding odd fits
not_held = refl
