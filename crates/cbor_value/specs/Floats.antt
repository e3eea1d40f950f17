-- The numbers that floats stand for (IEEE 754), in the floats of the standard library: `nan`, an
-- infinity, or ±m * 2 ^ e as `fin`, with a sign. There a number is written in one way, by an odd m,
-- or by 0 with 0. So two are equal where they are one number with one sign (0 isn't -0), and a NaN
-- has neither sign nor payload.
use Rattle.std.specs.Prelude.{◌≡◌, ℕ, ◌+◌, ◌-◌, ◌/◌, ◌%◌, Bool, true, false, pos, negsuc}
use Rattle.std.specs.Prelude.{◌==◌, if◌then◌else◌, leb, refl}
use Rattle.std.specs.Float.{binary32, binary64, nan, inf, fin}
use Rattle.std.specs.Float.Ieee as ieee
use Rattle.std.specs.Float.Ieee.{of_bits, to_bits, odd}
use Rattle.cbor_model.specs.Raw.{FloatWidth, half, single, double}
use Rattle.cbor_value.specs.declared.Float.{Float}
use Rattle.cbor_value.specs.declared.Float.TheVariants.{Half, Single, Double}

-- Binary16, by its sign, its exponent's five bits and its fraction's ten: the fraction / 2^24 where
-- the exponent is 0, an infinity or a NaN where it is 31, and else
-- (2^10 + the fraction) * 2^(the exponent - 1) / 2^24.
-- `odd d s q k l` is q * 2^k / 2^l with the sign s, for a q of at most d binary digits.
unfoldable pub half_parts : Bool → ℕ → ℕ → ieee.Float
half_parts sign exponent fraction =
    if exponent == 0 then odd 11 sign fraction 0 24 else
    if exponent == 31 then (if fraction == 0 then inf sign else nan) else
    odd 11 sign (1024 + fraction) (exponent - 1) 24

unfoldable pub half_number : ℕ → ieee.Float
unfolding half_parts
half_number bits = half_parts (leb 0x8000 bits) (bits / 1024 % 32) (bits % 1024)

-- the number of a float of that width and with those bits; binary32 and binary64 are std's
abbrev pub number : FloatWidth → ℕ → ieee.Float
number half bits = half_number bits
number single bits = of_bits binary32 bits
number double bits = of_bits binary64 bits

abbrev pub number_of : Float → ieee.Float
number_of (Half bits) = number half bits
number_of (Single bits) = number single bits
number_of (Double bits) = number double bits

-- ---- examples

-- 1.5, -2, the least above 0, -0, the greatest, an infinity and a NaN
one_and_a_half : half_number 0x3e00 ≡ fin false 3 (negsuc 0)
unfolding half_number odd
one_and_a_half = refl

minus_two : half_number 0xc000 ≡ fin true 1 (pos 1)
unfolding half_number odd
minus_two = refl

least_half : half_number 0x0001 ≡ fin false 1 (negsuc 23)
unfolding half_number odd
least_half = refl

minus_zero : half_number 0x8000 ≡ fin true 0 (pos 0)
unfolding half_number odd
minus_zero = refl

-- 65504
greatest_half : half_number 0x7bff ≡ fin false 2047 (pos 5)
unfolding half_number odd
greatest_half = refl

minus_infinity : half_number 0xfc00 ≡ inf true
unfolding half_number
minus_infinity = refl

not_a_number : half_number 0x7e01 ≡ nan
unfolding half_number
not_a_number = refl

-- the doubles of the same numbers
one_and_a_half_wide : to_bits binary64 (half_number 0x3e00) ≡ 0x3ff8_0000_0000_0000
unfolding half_number odd to_bits
one_and_a_half_wide = refl

least_half_wide : to_bits binary64 (half_number 0x0001) ≡ 0x3e70_0000_0000_0000
unfolding half_number odd to_bits
least_half_wide = refl

minus_zero_wide : to_bits binary64 (half_number 0x8000) ≡ 0x8000_0000_0000_0000
unfolding half_number odd to_bits
minus_zero_wide = refl

minus_infinity_wide : to_bits binary64 (half_number 0xfc00) ≡ 0xfff0_0000_0000_0000
unfolding half_number to_bits
minus_infinity_wide = refl
