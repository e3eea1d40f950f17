-- Bytes that encode one item, kept as they are.
use Rattle.std.specs.Prelude.{◌≡◌, ℕ, true, false, List, [], ◌∷◌, length, None, Result, Ok, Err, IsUtf8}
use Rattle.std.specs.Prelude.{is_ok, refl}
use Rattle.cbor_model.specs.Formats.{all_formats}
use Rattle.cbor_model.specs.Head.{one_byte}
use Rattle.cbor_model.specs.Raw.{Raw, IsWellFormed, EachText, simple, null_item, unsigned}
use Rattle.cbor_model.specs.RawReader.{raws_in}
use Rattle.cbor_model.specs.Reader.{Fault, item_at, item_by, byte_at, after_first, content_at}
use Rattle.cbor_model.specs.Reader.{number_behind, whole}
use Rattle.cbor_model.specs.Spelling.{spell}

-- The item that all of the bytes encode, which has no more levels than bytes; or why none.
unfoldable pub item_of : List ℕ → Result Raw Fault
item_of bs = whole (item_at (raws_in all_formats (length bs) None) (length bs) bs)

-- The bytes encode one item.
abbrev pub IsEncoding : List ℕ → Type 0
IsEncoding bs = is_ok (item_of bs) ≡ true

abbrev pub item_or_null : Result Raw Fault → Raw
item_or_null (Ok r) = r
item_or_null (Err f) = simple null_item

-- that item
abbrev pub encoded_item : List ℕ → Raw
encoded_item bs = item_or_null (item_of bs)

-- By the definitions: a well-formed item, whose texts are UTF-8, is spelled so.
pub record Encodes (bytes : List ℕ) (item : Raw) : Type 0 where
  pub spelled : spell item ≡ bytes
  pub fits : IsWellFormed item
  pub texts : EachText IsUtf8 item

-- ---- examples

-- 18 01: the number 1 in two bytes
two_bytes_of_one : encoded_item (0x18 ∷ 0x01 ∷ []) ≡ unsigned one_byte 1
unfolding item_of item_at item_by byte_at after_first content_at number_behind
two_bytes_of_one = refl

-- 18: cut off
cut_off : is_ok (item_of (0x18 ∷ [])) ≡ false
unfolding item_of item_at item_by byte_at after_first content_at number_behind
cut_off = refl
