-- Byte strings and texts.
use Rattle.std.specs.Prelude.{ℕ, ◌/◌, ◌%◌, ◌==◌, ◌||◌, Bool, false, List, [], ◌∷◌, ◌++◌, codes}
use Rattle.std.specs.Prelude.{Option, Some, None, if◌then◌else◌, refl, ◌≡◌}
use Rattle.std.specs.Char.{encode_utf8, is_control}
use Rattle.std.specs.Fmt.{digit_glyph}
use Rattle.std.specs.List.{flat_map}
use Rattle.std.specs.Str.{chars}

-- ---- byte strings

-- the two digits of a byte, in lower case
abbrev pub hex_byte : ℕ → List ℕ
hex_byte b = digit_glyph false (b / 16) ∷ digit_glyph false (b % 16) ∷ []

abbrev pub hex : List ℕ → List ℕ
hex bytes = flat_map hex_byte bytes

abbrev pub byte_string : List ℕ → List ℕ
byte_string bytes = codes "h'" ++ (hex bytes ++ codes "'")

-- ---- texts

-- what stands after a backslash for a character that has such an escape in JSON: a quote and a
-- backslash as they are, then \b \t \n \f \r
abbrev pub escape_letter : ℕ → Option ℕ
escape_letter c =
    if c == 34 then Some 34 else
    if c == 92 then Some 92 else
    if c == 8 then Some 98 else
    if c == 9 then Some 116 else
    if c == 10 then Some 110 else
    if c == 12 then Some 102 else
    if c == 13 then Some 114 else None

-- a character that has no such escape: as `\u00..` where it is a control character, and otherwise as
-- it is
abbrev pub escaped_with : Option ℕ → ℕ → List ℕ
escaped_with (Some letter) c = 92 ∷ encode_utf8 letter
escaped_with None c = if is_control c then codes "\\u00" ++ hex_byte c else encode_utf8 c

abbrev pub escaped : ℕ → List ℕ
escaped c = escaped_with (escape_letter c) c

-- each character of the text
abbrev pub all_escaped : List ℕ → List ℕ
all_escaped text = flat_map escaped (chars text)

abbrev pub quoted : List ℕ → List ℕ
quoted text = 34 ∷ (all_escaped text ++ 34 ∷ [])

-- ---- examples

two_bytes : byte_string (0x01 ∷ 0xfe ∷ []) ≡ codes "h'01fe'"
two_bytes = refl

quote_and_backslash : quoted (codes "\"\\") ≡ codes "\"\\\"\\\\\""
unfolding chars encode_utf8
quote_and_backslash = refl

line_and_escape : quoted (0x0a ∷ 0x1b ∷ []) ≡ codes "\"\\n\\u001b\""
unfolding chars encode_utf8
line_and_escape = refl

-- ü
beyond_ascii : quoted (0xc3 ∷ 0xbc ∷ []) ≡ 34 ∷ 0xc3 ∷ 0xbc ∷ 34 ∷ []
unfolding chars encode_utf8
beyond_ascii = refl
