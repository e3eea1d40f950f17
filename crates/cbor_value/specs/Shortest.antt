-- The shortest float of a number: in the narrowest of binary16, binary32 and binary64 that holds it
-- exactly, and 7e00 of 16 bits for a NaN (RFC 8949, sections 4.2.1 and 4.2.2).
use Rattle.std.specs.Prelude.{◌≡◌, ℕ, if◌then◌else◌, Option, Some, None, refl}
use Rattle.std.specs.Float.{binary32, binary64}
use Rattle.std.specs.Float.Ieee as ieee
use Rattle.std.specs.Float.Ieee.{fits, odd, of_bits, of_fields, to_bits}
pub use Rattle.cbor_halves.specs.Halves.{half_by, half_of}
use Rattle.cbor_model.specs.Plain.{Val, float}
use Rattle.cbor_model.specs.Raw.{half, single, double}
use Rattle.cbor_value.specs.Floats.{number}
use Rattle.cbor_value.specs.declared.Float.{Float}
use Rattle.cbor_value.specs.declared.Float.TheVariants.{Half, Single, Double}

abbrev pub half_or_single : ℕ → Option ℕ → Val
half_or_single bits (Some h) = float half h
half_or_single bits None = float single bits

-- the shortest float of a number
unfoldable pub shortest : ieee.Float → Val
shortest x =
    if fits binary32 x then half_or_single (to_bits binary32 x) (half_of (to_bits binary32 x))
    else float double (to_bits binary64 x)

-- how many bits a float has
abbrev pub width : Float → ℕ
width (Half bits) = 16
width (Single bits) = 32
width (Double bits) = 64

-- ---- examples

-- 1.5
one_and_a_half : shortest (number double 0x3ff8_0000_0000_0000) ≡ float half 0x3e00
unfolding shortest of_bits of_fields odd fits to_bits
one_and_a_half = refl

-- 100000.0
hundred_thousand : shortest (number double 0x40f8_6a00_0000_0000) ≡ float single 0x47c3_5000
unfolding shortest of_bits of_fields odd fits to_bits
hundred_thousand = refl

-- 1.1
no_narrower : shortest (number double 0x3ff1_9999_9999_999a) ≡ float double 0x3ff1_9999_9999_999a
unfolding shortest of_bits of_fields odd fits to_bits
no_narrower = refl

-- the least half, 2^-24
least_half : shortest (number single 0x3380_0000) ≡ float half 0x0001
unfolding shortest of_bits of_fields odd fits to_bits
least_half = refl

-- a NaN with a sign and a payload
not_a_number : shortest (number single 0xff80_0001) ≡ float half 0x7e00
unfolding shortest of_bits of_fields odd fits to_bits
not_a_number = refl
