-- The reference reader, where it gives the item itself, as it is spelled.
use Rattle.std.specs.Prelude.{◌≡◌, ◌++◌, ℕ, ◌+◌, ◌-◌, ◌^◌, Bool, List, length, Option, nat_lt, ◌==◌}
use Rattle.std.specs.Str.Lossy.{utf8_valid_len}
use Rattle.cbor_model.specs.Raw as raw
use Rattle.cbor_model.specs.Raw.{Raw, Raws, no_raws, RawPairs, no_raw_pairs, raw_pair}
use Rattle.cbor_model.specs.Spelling.{spell}
use Rattle.cbor_model.specs.Acceptable.{IsAcceptableWithin}
use Rattle.cbor_model.specs.Formats.{Formats, may_begin_key}
use Rattle.cbor_model.specs.Reader.{Reading, exceeds_most}

-- items as they are spelled, with these tests
abbrev pub raws_where : (ℕ → ℕ → Bool) → (List ℕ → Bool) → (ℕ → Bool) → (ℕ → Bool)
    → Reading Raw Raws RawPairs
raws_where has_room is_text exceeds allows = record {
  unsigned = raw.unsigned;
  negative = raw.negative;
  bytes = raw.bytes;
  text = raw.text;
  bytes_chunks = raw.bytes_chunks;
  text_chunks = raw.text_chunks;
  array = raw.array;
  map = raw.map;
  tag = raw.tag;
  simple = raw.simple;
  float = raw.float;
  no_items = no_raws;
  item = raw.raw;
  no_pairs = no_raw_pairs;
  pair = raw_pair;
  has_room = has_room;
  is_text = is_text;
  exceeds = exceeds;
  allows = allows;
}

-- of these formats, in an input of this length, where so many bytes of chunks can be joined
abbrev pub raws_in : Formats → ℕ → Option ℕ → Reading Raw Raws RawPairs
raws_in f total most =
    raws_where (λ left n. nat_lt (total - left + n) (2 ^ 64)) (λ b. utf8_valid_len b == length b)
    (exceeds_most most) (may_begin_key f)

-- An acceptable item stands at the front of the bytes, and these others after it.
pub record Begins (levels : ℕ) (bytes : List ℕ) (item : Raw) (rest : List ℕ) : Type 0 where
  pub spelled : bytes ≡ spell item ++ rest
  pub acceptable : IsAcceptableWithin levels item
