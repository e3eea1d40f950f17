-- What rules look at in an item: its heads, and the keys of its maps, in the order of the bytes.
use Rattle.std.specs.Prelude.{◌≡◌, ℕ, suc, ◌+◌, List, [], ◌∷◌, ◌++◌, length, refl}
use Rattle.cbor_model.specs.Head.{HeadWidth, no_bytes, one_byte, head}
use Rattle.cbor_model.specs.Raw.{Length, definite, indefinite, Raw, Raws, no_raws, raw, RawPairs}
use Rattle.cbor_model.specs.Raw.{no_raw_pairs, raw_pair, Chunk, Simple, FloatWidth, unsigned}
use Rattle.cbor_model.specs.Raw.{negative, bytes, text, bytes_chunks, text_chunks, array, map, tag}
use Rattle.cbor_model.specs.Raw.{simple, float, count, pair_count}
use Rattle.cbor_model.specs.Spelling.{chunk, spell, float_spelling}

pub data Feature : Type 0 where
  -- the head of a major type from 0 to 6, with its number in that width
  number : ℕ → HeadWidth → ℕ → Feature
  -- the first byte of an indefinite length
  indefinite_length : Feature
  simple_item : Simple → Feature
  float_bits : FloatWidth → ℕ → Feature
  -- the encodings of the keys before it in its map, the latest first, and of a key
  key : List (List ℕ) → List ℕ → Feature
  -- an item of an array of indefinite length, and how many are before it
  nth_item : ℕ → Feature
  -- a chunk of a string, and how many bytes the string has with it
  chunk_to : ℕ → Feature

-- a feature, and the offset after the bytes that show it
pub record Place : Type 0 where
  pub feature : Feature
  pub offset : ℕ

abbrev pub place : ℕ → Feature → Place
place at f = record { feature = f; offset = at }

-- the end of a head at this offset
abbrev pub head_end : ℕ → ℕ → HeadWidth → ℕ → ℕ
head_end at major w n = at + length (head major w n)

abbrev pub number_place : ℕ → ℕ → HeadWidth → ℕ → Place
number_place at major w n = place (head_end at major w n) (number major w n)

-- The length of an array or a map.
abbrev pub length_place : ℕ → ℕ → Length → ℕ → Place
length_place at major (definite w) n = number_place at major w n
length_place at major indefinite n = place (suc at) indefinite_length

-- where what it encloses begins
abbrev pub length_end : ℕ → ℕ → Length → ℕ → ℕ
length_end at major (definite w) n = head_end at major w n
length_end at major indefinite n = suc at

-- the chunks of a string, from this offset on, after chunks of so many bytes
abbrev pub chunk_places : ℕ → ℕ → ℕ → List Chunk → List Place
chunk_places at major sum [] = []
chunk_places at major sum (c ∷ cs) =
    number_place at major c.width (length c.bytes)
    ∷ place (head_end at major c.width (length c.bytes)) (chunk_to (sum + length c.bytes))
    ∷ chunk_places (at + length (chunk major c)) major (sum + length c.bytes) cs

-- The features of an item at this offset, in the order of the bytes.
unfoldable mutual
  pub features : ℕ → Raw → List Place
  features at (unsigned w n) = number_place at 0 w n ∷ []
  features at (negative w n) = number_place at 1 w n ∷ []
  features at (bytes c) = number_place at 2 c.width (length c.bytes) ∷ []
  features at (text c) = number_place at 3 c.width (length c.bytes) ∷ []
  features at (bytes_chunks cs) = place (suc at) indefinite_length ∷ chunk_places (suc at) 2 0 cs
  features at (text_chunks cs) = place (suc at) indefinite_length ∷ chunk_places (suc at) 3 0 cs
  features at (array (definite w) rs) =
      number_place at 4 w (count rs) ∷ all_features (head_end at 4 w (count rs)) rs
  features at (array indefinite rs) =
      place (suc at) indefinite_length ∷ open_features (suc at) 0 rs
  features at (map l ps) =
      length_place at 5 l (pair_count ps)
      ∷ pair_features (length_end at 5 l (pair_count ps)) [] ps
  features at (tag w n r) = number_place at 6 w n ∷ features (head_end at 6 w n) r
  features at (simple s) = place (suc at) (simple_item s) ∷ []
  features at (float w bits) = place (at + length (float_spelling w bits)) (float_bits w bits) ∷ []

  pub all_features : ℕ → Raws → List Place
  all_features at no_raws = []
  all_features at (raw r rs) = features at r ++ all_features (at + length (spell r)) rs

  -- of items of an indefinite length, after so many
  pub open_features : ℕ → ℕ → Raws → List Place
  open_features at earlier no_raws = []
  open_features at earlier (raw r rs) =
      features at r
      ++ (place (at + length (spell r)) (nth_item earlier)
      ∷ open_features (at + length (spell r)) (earlier + 1) rs)

  -- of pairs after keys of these bytes
  pub pair_features : ℕ → List (List ℕ) → RawPairs → List Place
  pair_features at earlier no_raw_pairs = []
  pair_features at earlier (raw_pair k v ps) =
      features at k
      ++ (place (at + length (spell k)) (key earlier (spell k))
      ∷ (features (at + length (spell k)) v
      ++ pair_features (at + length (spell k) + length (spell v)) (spell k ∷ earlier) ps))

-- ---- examples

-- 9f 18 17 ff
open_array : features 0 (array indefinite (raw (unsigned one_byte 23) no_raws))
    ≡ place 1 indefinite_length ∷ place 3 (number 0 one_byte 23) ∷ place 3 (nth_item 0) ∷ []
unfolding features spell
open_array = refl

-- a2 01 02 03 04
two_keys : features 0 (map (definite no_bytes)
    (raw_pair (unsigned no_bytes 1) (unsigned no_bytes 2)
    (raw_pair (unsigned no_bytes 3) (unsigned no_bytes 4)
    no_raw_pairs)))
    ≡ place 1 (number 5 no_bytes 2)
    ∷ place 2 (number 0 no_bytes 1) ∷ place 2 (key [] (1 ∷ [])) ∷ place 3 (number 0 no_bytes 2)
    ∷ place 4 (number 0 no_bytes 3) ∷ place 4 (key ((1 ∷ []) ∷ []) (3 ∷ [])) ∷ place 5 (number 0 no_bytes 4)
    ∷ []
unfolding features spell
two_keys = refl
