-- The values that a stream has given, of bytes that begin with their items one after the other.
use Rattle.std.specs.Prelude.{◌≡◌, ◌≤◌, ◌+◌, ℕ, false, List, [], ◌∷◌, length, None}
use Rattle.cbor_model.specs.Acceptable.{max_depth}
use Rattle.cbor_model.specs.Formats.{all_formats}
use Rattle.cbor_model.specs.Raw.{Raw, AreBytes}
use Rattle.cbor_decode.specs.Gives.{Reports}
use Rattle.cbor_de.specs.ItemTaken.{BeginsAs}
use Rattle.cbor_de.specs.Streams.{Stream}

module _ {A : Type 0} (reads : Raw → A → Type 0) where
  -- The bytes are the encodings of items that are read as these values, each acceptable within 127
  -- levels, one after the other, and the rest.
  abbrev pub ValuesBegin : List ℕ → List A → List ℕ → Type 0
  ValuesBegin bytes [] rest = bytes ≡ rest
  ValuesBegin bytes (x ∷ xs) rest = (others : List ℕ)
      × BeginsAs all_formats max_depth reads bytes x others × ValuesBegin others xs rest

  -- No longer list of values begins the bytes.
  pub record AreMostValues (bytes : List ℕ) (values : List A) (rest : List ℕ) : Type 0 where
    pub begin : ValuesBegin bytes values rest
    pub most : (others : List A) (after : List ℕ) → ValuesBegin bytes others after
        → length others ≤ length values

  -- A stream over a reader that gave these bytes, under all formats and within 127 levels, has given
  -- these values and no error. The rest is still to come, at this offset.
  pub record HasStreamed (bytes : List ℕ) (values : List A) (s : Stream) : Type 0 where
    pub rest : List ℕ
    pub begin : ValuesBegin bytes values rest
    pub reports : Reports s.input rest
    pub are_bytes : AreBytes rest
    pub place : s.input.offset + length rest ≡ length bytes
    pub room : s.input.room ≡ None
    pub levels : s.levels ≡ max_depth
    pub formats : s.formats ≡ all_formats
    pub going : s.done ≡ false
