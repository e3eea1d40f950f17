-- What `deserialize` takes of the bytes to come, by the definitions.
use Rattle.std.specs.Prelude.{◌≡◌, ◌⊎◌, ℕ, ◌+◌, Bool, List, length, Result, MatchResult}
use Rattle.cbor_model.specs.Acceptable.{FitsScratch}
use Rattle.cbor_model.specs.Formats.{Formats, HasAllowedKeys}
use Rattle.cbor_model.specs.Raw.{Raw, AreBytes}
use Rattle.cbor_model.specs.RawReader.{Begins}
use Rattle.cbor_model.specs.Readable.{Context}
use Rattle.cbor_model.specs.Spelling.{spell}
use Rattle.cbor_io.specs.declared.error.Error.{Error}
use Rattle.cbor_io.specs.declared.read_error.ReadErrorCode.{ReadErrorCode}
use Rattle.cbor_io.specs.Error.{code_of, offset_of}
use Rattle.cbor_read.specs.Source.{Input, Lends}
use Rattle.cbor_decode.specs.Gives.{ReportsIo, Reports}
use Rattle.cbor_decode_as.specs.Takes.{ExcusedBy, TakesItem, lending}

-- The bytes are the spelling of an item that is read as x, and these others: the item is acceptable
-- within so many levels, and its keys are of the formats that are read.
pub record BeginsAs {A : Type 0} (f : Formats) (levels : ℕ) (reads : Raw → A → Type 0) (bytes : List ℕ)
    (x : A) (rest : List ℕ) : Type 0 where
  pub item : Raw
  pub begins : Begins levels bytes item rest
  pub keys : HasAllowedKeys f item
  pub means : reads item x

-- The source has just the rest to come, and counted the bytes of the item.
pub record TookItem {A : Type 0} (f : Formats) (levels : ℕ) (reads : Raw → A → Type 0) (s t : Input)
    (bytes : List ℕ) (x : A) : Type 0 where
  pub rest : List ℕ
  pub read : BeginsAs f levels reads bytes x rest
  pub reports : Reports t rest
  pub count : t.offset ≡ s.offset + length (spell read.item)

-- No such item is there whose chunks fit the buffer.
abbrev pub BeginsAsNone : {A : Type 0} → Formats → ℕ → (Raw → A → Type 0) → Input → List ℕ → Type 0
BeginsAsNone {A} f levels reads s bytes = (x : A) (rest : List ℕ)
    → (read : BeginsAs f levels reads bytes x rest) → FitsScratch s.room read.item → ⊥

-- Ok took such an item; of an Err none is there, or memory ran out, or the device has a fault.
abbrev pub ItemTaken : {A : Type 0} → (Context → Raw → A → Type 0) → Type 0
ItemTaken {A} reads = (refusals : ReadErrorCode → Bool) (f : Formats) (l : Lends) (levels : ℕ)
    (s t : Input) (bytes : List ℕ) (r : Result A Error)
    → Reports s bytes → AreBytes bytes → TakesItem refusals f (reads (lending f l)) levels s t r
    → MatchResult r (TookItem f levels (reads (lending f l)) s t bytes)
    (λ e. ExcusedBy (ReportsIo refusals) (code_of e) (offset_of e)
    ⊎ BeginsAsNone f levels (reads (lending f l)) s bytes)
