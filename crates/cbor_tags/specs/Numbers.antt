-- Big numbers (RFC 8949, section 3.4.3): a byte string is a number in network byte order.
use Rattle.std.specs.Prelude.{◌≡◌, ◌<◌, ℕ, ℤ, pos, negsuc, Bool, false, true, List, [], ◌∷◌, refl}
use Rattle.cbor_io.specs.Compare.{big_endian}

-- The integer whose bytes are those of n: n, and where it is negative -1 - n.
abbrev pub integer_of : (negative : Bool) → List ℕ → ℤ
integer_of false bs = pos (big_endian bs)
integer_of true bs = negsuc (big_endian bs)

-- and the tag that says which
abbrev pub sign_tag : (negative : Bool) → ℕ
sign_tag false = 2
sign_tag true = 3

-- The preferred form of the bytes: leading zeros are left out.
abbrev pub HasNoLeadingZero : List ℕ → Type 0
HasNoLeadingZero [] = Unit {0}
HasNoLeadingZero (b ∷ bs) = 0 < b

-- -18446744073709551617 (Appendix A)
minus_two_to_64_less_one : integer_of true (1 ∷ 0 ∷ 0 ∷ 0 ∷ 0 ∷ 0 ∷ 0 ∷ 0 ∷ 0 ∷ []) ≡ negsuc 18446744073709551616
minus_two_to_64_less_one = refl
