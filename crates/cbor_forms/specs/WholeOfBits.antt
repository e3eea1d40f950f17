-- The whole number that the bits of a binary64 are, without its sign (IEEE 754). It is no
-- definition of a float's number: `integer_of` is, and `integer_of` of the crate gives its answers.
use Rattle.std.specs.Prelude.{◌≡◌, ℕ, ◌+◌, ◌-◌, ◌*◌, ◌/◌, ◌%◌, ◌^◌, ◌==◌, ◌&&◌, nat_le}
use Rattle.std.specs.Prelude.{if◌then◌else◌, Bool, ℤ, Option, Some, None, refl}
use Rattle.cbor_forms.specs.Reduced.{signed}

-- By the exponent's eleven bits x and the fraction's 52, the number is
-- (2^52 + the fraction) * 2^(x - 1075), where x is neither 0 nor 2047. Below 2^64 it is whole from
-- x 1023 on, if the digits past the point are 0, and up to x 1086.
abbrev pub whole_by : ℕ → ℕ → Option ℕ
whole_by x fraction =
    if (x == 0) && (fraction == 0) then Some 0 else
    if nat_le 1023 x && (nat_le x 1074 && ((2 ^ 52 + fraction) % 2 ^ (1075 - x) == 0)) then
    Some ((2 ^ 52 + fraction) / 2 ^ (1075 - x)) else
    if nat_le 1075 x && nat_le x 1086 then Some ((2 ^ 52 + fraction) * 2 ^ (x - 1075)) else
    None

abbrev pub whole_of : ℕ → Option ℕ
whole_of bits = whole_by (bits / 2 ^ 52 % 2 ^ 11) (bits % 2 ^ 52)

abbrev pub with_sign : Bool → Option ℕ → Option ℤ
with_sign sign (Some n) = signed sign n
with_sign sign None = None

-- ---- examples

-- 3.0, 1.5 and 2^64
three : whole_of 0x4008_0000_0000_0000 ≡ Some 3
three = refl

no_whole : whole_of 0x3ff8_0000_0000_0000 ≡ None
no_whole = refl

past_the_end : whole_of 0x43f0_0000_0000_0000 ≡ None
past_the_end = refl
