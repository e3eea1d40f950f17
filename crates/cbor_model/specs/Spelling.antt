-- The spelling of a raw item: its bytes (RFC 7049, sections 2.1 to 2.3).
use Rattle.std.specs.Prelude.{◌≡◌, ℕ, ◌+◌, ◌*◌, List, [], ◌∷◌, ◌++◌, length, flat_map, refl}
use Rattle.std.specs.Int.{w16, w32, w64, to_be_bytes}
use Rattle.cbor_model.specs.Head.{head, no_bytes, one_byte}
use Rattle.cbor_model.specs.Raw.{Length, definite, indefinite, Raw, Raws, no_raws, raw, RawPairs}
use Rattle.cbor_model.specs.Raw.{no_raw_pairs, raw_pair, Chunk, Simple, false_item, true_item}
use Rattle.cbor_model.specs.Raw.{null_item, undefined_item, FloatWidth, half, single, double}
use Rattle.cbor_model.specs.Raw.{unsigned, negative, bytes, text, bytes_chunks, text_chunks, array}
use Rattle.cbor_model.specs.Raw.{map, tag, simple, float, count, pair_count, IsWellFormed}

abbrev pub chunk : ℕ → Chunk → List ℕ
chunk major c = head major c.width (length c.bytes) ++ c.bytes

abbrev pub simple_byte : Simple → ℕ
simple_byte false_item = 0xf4
simple_byte true_item = 0xf5
simple_byte null_item = 0xf6
simple_byte undefined_item = 0xf7

abbrev pub float_spelling : FloatWidth → ℕ → List ℕ
float_spelling half bits = 0xf9 ∷ to_be_bytes w16 bits
float_spelling single bits = 0xfa ∷ to_be_bytes w32 bits
float_spelling double bits = 0xfb ∷ to_be_bytes w64 bits

-- what ends an array or a map of indefinite length, and the chunks of a string
abbrev pub break : List ℕ
break = 0xff ∷ []

-- n items of an array or a map: their count before them, or a break after them
abbrev pub enclosed : ℕ → Length → ℕ → List ℕ → List ℕ
enclosed major (definite w) n items = head major w n ++ items
enclosed major indefinite n items = (32 * major + 31) ∷ (items ++ break)

unfoldable mutual
  pub spell : Raw → List ℕ
  spell (unsigned w n) = head 0 w n
  spell (negative w n) = head 1 w n
  spell (bytes c) = chunk 2 c
  spell (text c) = chunk 3 c
  spell (bytes_chunks cs) = 0x5f ∷ (flat_map (chunk 2) cs ++ break)
  spell (text_chunks cs) = 0x7f ∷ (flat_map (chunk 3) cs ++ break)
  spell (array l rs) = enclosed 4 l (count rs) (spell_all rs)
  spell (map l ps) = enclosed 5 l (pair_count ps) (spell_pairs ps)
  spell (tag w n r) = head 6 w n ++ spell r
  spell (simple s) = simple_byte s ∷ []
  spell (float w bits) = float_spelling w bits

  pub spell_all : Raws → List ℕ
  spell_all no_raws = []
  spell_all (raw r rs) = spell r ++ spell_all rs

  pub spell_pairs : RawPairs → List ℕ
  spell_pairs no_raw_pairs = []
  spell_pairs (raw_pair k v ps) = spell k ++ (spell v ++ spell_pairs ps)

-- The bytes are a front of a well-formed item's spelling, the whole included.
pub record BeginsSpelling (front : List ℕ) : Type 0 where
  pub item : Raw
  pub fits : IsWellFormed item
  pub more : List ℕ
  pub whole : spell item ≡ front ++ more

-- ---- examples

-- 23 in a head that isn't shortest
long_23 : spell (unsigned one_byte 23) ≡ 0x18 ∷ 0x17 ∷ []
unfolding spell
long_23 = refl

-- [_ 1, {_ 2: undefined}]
indefinite_lengths : spell (array indefinite
    (raw (unsigned no_bytes 1)
    (raw (map indefinite (raw_pair (unsigned no_bytes 2) (simple undefined_item) no_raw_pairs))
    no_raws)))
    ≡ 0x9f ∷ 0x01 ∷ 0xbf ∷ 0x02 ∷ 0xf7 ∷ 0xff ∷ 0xff ∷ []
unfolding spell
indefinite_lengths = refl

-- the text "ab" in two chunks
two_chunks : spell (text_chunks (
    record { width = no_bytes; bytes = 0x61 ∷ [] }
    ∷ record { width = no_bytes; bytes = 0x62 ∷ [] }
    ∷ []))
    ≡ 0x7f ∷ 0x61 ∷ 0x61 ∷ 0x61 ∷ 0x62 ∷ 0xff ∷ []
unfolding spell
two_chunks = refl
