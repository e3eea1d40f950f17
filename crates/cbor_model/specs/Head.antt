-- The head of an item (RFC 7049, section 2): a first byte, and the bytes of a number after it.
use Rattle.std.specs.Prelude.{ℕ, ◌+◌, ◌*◌, ◌^◌, List, [], ◌∷◌, nat_lt, if◌then◌else◌}
use Rattle.std.specs.Int.{w8, w16, w32, w64, to_be_bytes}

-- How many bytes the number takes after the first byte.
pub data HeadWidth : Type 0 where
  no_bytes : HeadWidth
  one_byte : HeadWidth
  two_bytes : HeadWidth
  four_bytes : HeadWidth
  eight_bytes : HeadWidth

-- a number fits the width where it is below this
abbrev pub limit : HeadWidth → ℕ
limit no_bytes = 24
limit one_byte = 2 ^ 8
limit two_bytes = 2 ^ 16
limit four_bytes = 2 ^ 32
limit eight_bytes = 2 ^ 64

-- the additional information, which is the lower five bits of the first byte
abbrev pub info : HeadWidth → ℕ → ℕ
info no_bytes n = n
info one_byte n = 24
info two_bytes n = 25
info four_bytes n = 26
info eight_bytes n = 27

-- the bytes after the first, the most significant first
abbrev pub behind : HeadWidth → ℕ → List ℕ
behind no_bytes n = []
behind one_byte n = to_be_bytes w8 n
behind two_bytes n = to_be_bytes w16 n
behind four_bytes n = to_be_bytes w32 n
behind eight_bytes n = to_be_bytes w64 n

-- the head of the major type, with the number in that width
abbrev pub head : ℕ → HeadWidth → ℕ → List ℕ
head major w n = (32 * major + info w n) ∷ behind w n

-- the least width that the number fits
abbrev pub least : ℕ → HeadWidth
least n =
    if nat_lt n (limit no_bytes) then no_bytes
    else (if nat_lt n (limit one_byte) then one_byte
    else (if nat_lt n (limit two_bytes) then two_bytes
    else (if nat_lt n (limit four_bytes) then four_bytes
    else eight_bytes)))

-- the shortest head
abbrev pub short : ℕ → ℕ → List ℕ
short major n = head major (least n) n
