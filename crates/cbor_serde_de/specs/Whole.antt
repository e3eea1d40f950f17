-- What the bytes of a slice encode whose only item a step of reading read.
use Rattle.std.specs.Prelude.{◌≡◌, ⊤, ℕ, ◌^◌, ◌<◌, List, length, pos}
use Rattle.cbor_model.specs.Acceptable.{IsAcceptableWithin}
use Rattle.cbor_model.specs.Raw.{Raw, AreBytes}
use Rattle.cbor_model.specs.Readable.{PassesTags, IsBool, IsInteger, IsText, IsUnit}
use Rattle.cbor_model.specs.Spelling.{spell}
use Rattle.cbor_decode_as.specs.Strings.{IsByteString, IsCharacter}
use Rattle.serde.specs.Event.{Event, boolean, signed, unsigned, single, double, character, text}
use Rattle.serde.specs.Event.{octets, nothing}
use Rattle.cbor_serde_options.specs.declared.options.Options.{Options}
use Rattle.cbor_serde_de.specs.Given.{Given}
use Rattle.cbor_serde_de.specs.Numbers.{IsDouble, IsSingle}
use Rattle.cbor_serde_de.specs.Places.{EndsSlice, Starts}
use Rattle.cbor_serde_de.specs.declared.cbor.Cbor.{Cbor}

-- The bytes are the spelling of one item, acceptable within so many levels, which is read as x within
-- its tags.
pub record EncodesAs {A : Type 0} (reads : Raw → A → Type 0) (levels : ℕ) (bytes : List ℕ) (x : A) : Type 0 where
  pub item : Raw
  pub spelled : spell item ≡ bytes
  pub acceptable : IsAcceptableWithin levels item
  pub means : PassesTags reads item x

-- The bytes encode an item that is read as this event. Of a head or an end nothing is said: it is no
-- item.
abbrev pub Encodes : ℕ → List ℕ → Event → Type 0
Encodes levels bytes (boolean b) = EncodesAs IsBool levels bytes b
Encodes levels bytes (signed z) = EncodesAs IsInteger levels bytes z
Encodes levels bytes (unsigned n) = EncodesAs IsInteger levels bytes (pos n)
Encodes levels bytes (single x) = EncodesAs IsSingle levels bytes x
Encodes levels bytes (double x) = EncodesAs IsDouble levels bytes x
Encodes levels bytes (character c) = EncodesAs IsCharacter levels bytes c
Encodes levels bytes (text b) = EncodesAs IsText levels bytes b
Encodes levels bytes (octets b) = EncodesAs IsByteString levels bytes b
Encodes levels bytes nothing = EncodesAs IsUnit levels bytes tt
Encodes levels bytes _ = ⊤

-- What a step read of the beginning of a slice that ends behind it, the slice encodes.
abbrev pub WholeItem : Type 0
WholeItem = (slice : List ℕ) (options : Options) (old new : Cbor) (e : Event)
    → AreBytes slice → length slice < 2 ^ 64
    → Starts slice options old → Given old e new → EndsSlice new → Encodes options.levels slice e
