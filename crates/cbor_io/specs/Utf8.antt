-- The syntax of UTF-8 (RFC 3629, section 4), a byte at a time: what has to follow the bytes that
-- were read, so that they are text.
use Rattle.std.specs.Prelude.{◌≡◌, refl, ℕ, if◌then◌else◌, List, [], ◌∷◌, ◌==◌}
use Rattle.std.specs.Int.{is_in_range}

-- Another character, or the end; one, two or three of the bytes UTF8-tail; the second byte after a
-- first one that leaves less room to it; nothing, since no text begins so.
pub data Utf8State : Type 0 where
  boundary : Utf8State
  one_tail : Utf8State
  two_tails : Utf8State
  three_tails : Utf8State
  after_e0 : Utf8State
  after_ed : Utf8State
  after_f0 : Utf8State
  after_f4 : Utf8State
  invalid : Utf8State

-- after the first byte of a character: UTF8-1, UTF8-2, UTF8-3 and UTF8-4
abbrev pub after_first : ℕ → Utf8State
after_first b =
    if is_in_range 0x00 0x7f b then boundary
    else if is_in_range 0xc2 0xdf b then one_tail
    else if b == 0xe0 then after_e0
    else if is_in_range 0xe1 0xec b then two_tails
    else if b == 0xed then after_ed
    else if is_in_range 0xee 0xef b then two_tails
    else if b == 0xf0 then after_f0
    else if is_in_range 0xf1 0xf3 b then three_tails
    else if b == 0xf4 then after_f4
    else invalid

-- after a byte that has to lie between these two
abbrev pub follows : ℕ → ℕ → Utf8State → ℕ → Utf8State
follows least most next b = if is_in_range least most b then next else invalid

abbrev pub after_byte : Utf8State → ℕ → Utf8State
after_byte boundary b = after_first b
after_byte one_tail b = follows 0x80 0xbf boundary b
after_byte two_tails b = follows 0x80 0xbf one_tail b
after_byte three_tails b = follows 0x80 0xbf two_tails b
after_byte after_e0 b = follows 0xa0 0xbf one_tail b
after_byte after_ed b = follows 0x80 0x9f one_tail b
after_byte after_f0 b = follows 0x90 0xbf two_tails b
after_byte after_f4 b = follows 0x80 0x8f two_tails b
after_byte invalid b = invalid

abbrev pub after_bytes : Utf8State → List ℕ → Utf8State
after_bytes s [] = s
after_bytes s (b ∷ bs) = after_bytes (after_byte s b) bs

-- the euro sign, U+20AC; a surrogate, U+D800; the slash in a form that is too long
euro_sign : after_bytes boundary (0xe2 ∷ 0x82 ∷ 0xac ∷ []) ≡ boundary
euro_sign = refl

surrogate : after_bytes boundary (0xed ∷ 0xa0 ∷ 0x80 ∷ []) ≡ invalid
surrogate = refl

long_slash : after_bytes boundary (0xc0 ∷ 0xaf ∷ []) ≡ invalid
long_slash = refl

-- ---- the table

-- where in a byte's row the six bits stand that say what a state becomes by that byte
abbrev pub place : Utf8State → ℕ
place invalid = 0
place boundary = 6
place one_tail = 12
place two_tails = 18
place three_tails = 24
place after_e0 = 30
place after_ed = 36
place after_f0 = 42
place after_f4 = 48
