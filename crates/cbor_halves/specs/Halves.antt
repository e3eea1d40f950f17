-- The binary16 of a binary32 of the same number (IEEE 754).
use Rattle.std.specs.Prelude.{◌≡◌, ℕ, ◌+◌, ◌-◌, ◌*◌, ◌/◌, ◌%◌, ◌^◌, ◌==◌, ◌&&◌, nat_le}
use Rattle.std.specs.Prelude.{if◌then◌else◌, Option, Some, None, refl}

-- The bits of binary16 that are the number of a binary32, if there are any: by the sign's bit in
-- binary16, and the exponent's eight bits x and the fraction's 23 in binary32, whose number is
-- (2^23 + the fraction) * 2^(x - 150) where x is neither 0 nor 255. Binary16 has exponents 112
-- lower, and 13 bits less; below its least exponent it has the multiples of 2^-24. That the number
-- is the same, and that none is missed, is proved in `cbor_value`, of `shortest`
-- (`number`, `narrowest`).
abbrev pub half_by : ℕ → ℕ → ℕ → Option ℕ
half_by sign x fraction =
    if x == 255 then Some (if fraction == 0 then sign + 0x7c00 else 0x7e00) else
    if (x == 0) && (fraction == 0) then Some sign else
    if nat_le 113 x && (nat_le x 142 && (fraction % 2 ^ 13 == 0)) then
    Some (sign + (x - 112) * 1024 + fraction / 2 ^ 13) else
    if nat_le 103 x && (nat_le x 112 && ((2 ^ 23 + fraction) % 2 ^ (126 - x) == 0)) then
    Some (sign + (2 ^ 23 + fraction) / 2 ^ (126 - x) % 1024) else
    None

abbrev pub half_of : ℕ → Option ℕ
half_of bits =
    half_by (if nat_le (2 ^ 31) bits then 2 ^ 15 else 0) (bits / 2 ^ 23 % 2 ^ 8) (bits % 2 ^ 23)

-- ---- examples

-- 1.5, and 1.1, which has none
one_and_a_half : half_of 0x3fc0_0000 ≡ Some 0x3e00
one_and_a_half = refl

no_narrower : half_of 0x3f8c_cccd ≡ None
no_narrower = refl
