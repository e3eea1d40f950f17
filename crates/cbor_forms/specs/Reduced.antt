-- dCBOR's numbers (draft-mcnally-deterministic-cbor, numeric reduction): a float that is an integer
-- from -2^63 to 2^64 - 1 is that integer, and every other one is at its shortest. There are no
-- integers below -2^63.
use Rattle.std.specs.Prelude.{◌≡◌, ◌<◌, ℕ, zero, ◌*◌, ◌^◌, ℤ, pos, negsuc, neg_ℤ, Bool, true, false}
use Rattle.std.specs.Prelude.{nat_lt, nat_le, if◌then◌else◌, Option, Some, None, refl}
use Rattle.std.specs.Float.{fin}
use Rattle.std.specs.Float.Ieee as ieee
use Rattle.std.specs.Float.Ieee.{odd, of_bits, of_fields}
use Rattle.cbor_model.specs.Plain.{Val, integer}
use Rattle.cbor_model.specs.Raw.{half, single, double}
use Rattle.cbor_value.specs.Floats.{number, half_number}
use Rattle.cbor_value.specs.Shortest.{shortest}

-- n with this sign, which is true below 0, from -2^63 to 2^64 - 1
abbrev pub signed : Bool → ℕ → Option ℤ
signed false n = if nat_lt n (2 ^ 64) then Some (pos n) else None
signed true n = if nat_le n (2 ^ 63) then Some (neg_ℤ (pos n)) else None

-- The integer in that range that a number is. ±m * 2^e is in its one way of writing, where m is odd
-- or m and e are 0; so it has a fraction where e is below 0.
abbrev pub integer_of : ieee.Float → Option ℤ
integer_of (fin sign m (pos e)) = signed sign (m * 2 ^ e)
integer_of _ = None

abbrev pub integer_or : Val → Option ℤ → Val
integer_or v (Some z) = integer z
integer_or v None = v

-- what dCBOR writes of a number
abbrev pub reduced_number : ieee.Float → Val
reduced_number x = integer_or (shortest x) (integer_of x)

-- an integer that dCBOR has, of those that CBOR has
abbrev pub IsReducedInteger : ℤ → Type 0
IsReducedInteger (pos n) = Unit {0}
IsReducedInteger (negsuc n) = n < 2 ^ 63

-- the number, with one zero
abbrev pub with_one_zero : ieee.Float → ieee.Float
with_one_zero (fin sign zero e) = fin false zero e
with_one_zero x = x

-- ---- examples

-- 2.0, -0.0, -2.0 and 65504.0
two : integer_of (number half 0x4000) ≡ Some (pos 2)
unfolding half_number odd
two = refl

minus_zero : integer_of (number double 0x8000_0000_0000_0000) ≡ Some (pos 0)
unfolding of_bits of_fields odd
minus_zero = refl

minus_two : integer_of (number single 0xc000_0000) ≡ Some (negsuc 1)
unfolding of_bits of_fields odd
minus_two = refl

greatest_half : integer_of (number half 0x7bff) ≡ Some (pos 65504)
unfolding half_number odd
greatest_half = refl

-- 1.5
no_integer : integer_of (number half 0x3e00) ≡ None
unfolding half_number odd
no_integer = refl

-- 2^64 - 2^11, 2^64, -2^63 and -2^63 - 2^11
below_the_end : integer_of (number double 0x43ef_ffff_ffff_ffff) ≡ Some (pos 0xffff_ffff_ffff_f800)
unfolding of_bits of_fields odd
below_the_end = refl

past_the_end : integer_of (number single 0x5f80_0000) ≡ None
unfolding of_bits of_fields odd
past_the_end = refl

least : integer_of (number single 0xdf00_0000) ≡ Some (negsuc 0x7fff_ffff_ffff_ffff)
unfolding of_bits of_fields odd
least = refl

below_the_least : integer_of (number double 0xc3e0_0000_0000_0001) ≡ None
unfolding of_bits of_fields odd
below_the_least = refl
