-- Which formats are read: of the keys of maps, and of enums.
use Rattle.std.specs.Prelude.{◌≡◌, ◌==◌, ℕ, Bool, true, false, nat_lt, if◌then◌else◌, refl}
use Rattle.cbor_model.specs.Head.{no_bytes}
use Rattle.cbor_model.specs.Raw.{Raw, no_raws, raw, no_raw_pairs, raw_pair, unsigned, negative}
use Rattle.cbor_model.specs.Raw.{text}
use Rattle.cbor_model.specs.Raw.{text_chunks, array, map, indefinite, EachKey}

-- Keys that are names, and keys that are numbers; enums by a map or their name alone, and enums by an
-- array.
pub record Formats : Type 0 where
  pub named : Bool
  pub packed : Bool
  pub standard_enums : Bool
  pub legacy_enums : Bool

abbrev pub all_formats : Formats
all_formats = record { named = true; packed = true; standard_enums = true; legacy_enums = true }

-- A text is a key of the named format, and a number from 0 one of the packed format. Other keys pass.
abbrev pub IsAllowedKey : Formats → Raw → Type 0
IsAllowedKey f (text c) = f.named ≡ true
IsAllowedKey f (text_chunks cs) = f.named ≡ true
IsAllowedKey f (unsigned w n) = f.packed ≡ true
IsAllowedKey f _ = Unit {0}

-- Each key of each map in the item is of a format that is read.
abbrev pub HasAllowedKeys : Formats → Raw → Type 0
HasAllowedKeys f = EachKey (IsAllowedKey f)

-- Whether a key may be read, by its first byte: a number from 0 begins with 00 to 1b, and a text with 60 to 7b,
-- or with 7f where it is in chunks.
abbrev pub may_begin_key : Formats → ℕ → Bool
may_begin_key f b =
    if nat_lt b 0x1c then f.packed
    else (if nat_lt b 0x60 then true
    else (if nat_lt b 0x7c then f.named
    else (if b == 0x7f then f.named
    else true)))

-- ---- examples

-- [{_ 1: 2}] has a key of the packed format
packed_within : (f : Formats) → f.packed ≡ true → HasAllowedKeys f
    (array indefinite
    (raw (map indefinite
    (raw_pair (unsigned no_bytes 1) (unsigned no_bytes 2) no_raw_pairs))
    no_raws))
packed_within f is = ((is, tt, tt, tt), tt)

-- neither names nor numbers from 0
abbrev no_keys : Formats
no_keys = record all_formats { named = false; packed = false }

-- {-1: 1} has a key of neither format
other_key : HasAllowedKeys no_keys
    (map indefinite (raw_pair (negative no_bytes 0) (unsigned no_bytes 1) no_raw_pairs))
other_key = (tt, tt, tt, tt)

-- the number 1, and -1
number_begins : may_begin_key no_keys 0x01 ≡ false
number_begins = refl

negative_begins : may_begin_key no_keys 0x20 ≡ true
negative_begins = refl

-- a text of 8 bytes of length, one in chunks, and an array
text_begins : may_begin_key no_keys 0x7b ≡ false
text_begins = refl

chunks_begin : may_begin_key no_keys 0x7f ≡ false
chunks_begin = refl

array_begins : may_begin_key no_keys 0x80 ≡ true
array_begins = refl
