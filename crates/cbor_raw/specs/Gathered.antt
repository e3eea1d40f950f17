-- What is taken of a source for the item at its front, as its bytes.
use Rattle.std.specs.Prelude.{◌≡◌, ℕ, Bool, true, false, List, [], ◌∷◌, ◌++◌, length, IfSome, Ok}
use Rattle.std.specs.Prelude.{Option}
use Rattle.cbor_model.specs.Encoding.{Encodes}
use Rattle.cbor_model.specs.Formats.{Formats}
use Rattle.cbor_model.specs.Raw.{Raw}
use Rattle.cbor_model.specs.RawReader.{raws_in}
use Rattle.cbor_model.specs.Reader.{item_at}
use Rattle.cbor_io.specs.declared.error.Error.{Error}
use Rattle.cbor_io.specs.declared.read_error.ReadErrorCode.{ReadErrorCode}
use Rattle.cbor_io.specs.Error.{code_of, offset_of}
use Rattle.cbor_read.specs.Source.{Input, Stays, TookKept}
use Rattle.cbor_decode.specs.Gives.{Limits}
use Rattle.cbor_decode_as.specs.Takes.{Refuses}
use Rattle.cbor_pushed.specs.ItemAtFront.{HasItem, HasNoItem, IsUnfinished}

-- Exactly these bytes were taken, and they are one acceptable item, which may have so many levels.
pub record IsGathered (levels : ℕ) (s t : Input) (bytes : List ℕ) : Type 0 where
  pub took : TookKept s t bytes
  pub item : HasItem levels bytes (length bytes)

-- Some of the bytes to come were taken from their front; and memory ran out, or the device has a
-- fault, or no acceptable item of so many levels stands at the front of those that were to come.
abbrev pub GathersNone : (ReadErrorCode → Bool) → ℕ → Input → Input → Error → Type 0
GathersNone refusals levels s t e =
    Refuses refusals s t (code_of e) (offset_of e) (λ l bs. HasNoItem levels bs)

-- the same, by lack of memory or a fault of the device alone
abbrev pub IsExcused : (ReadErrorCode → Bool) → Input → Input → Error → Type 0
IsExcused refusals s t e = Refuses refusals s t (code_of e) (offset_of e) (λ l bs. ⊥)

-- The reference reader reads no item of these bytes, whichever formats are read and however long a
-- scratch is.
abbrev pub ReadsNone : ℕ → Limits → List ℕ → Type 0
ReadsNone levels l bs = (f : Formats) (most : Option ℕ) (r : Raw) (rest : List ℕ)
    → ¬ (item_at (raws_in f l.total most) levels bs ≡ Ok (r, rest))

-- Some of the bytes to come were taken; and memory ran out, or the device has a fault, or the
-- reference reader reads no item of those that were to come.
abbrev pub GathersUnread : (ReadErrorCode → Bool) → ℕ → Input → Input → Error → Type 0
GathersUnread refusals levels s t e =
    Refuses refusals s t (code_of e) (offset_of e) (ReadsNone levels)

-- the bytes that encode an item are what it is read as
abbrev pub IsBytesOf : Raw → List ℕ → Type 0
IsBytesOf r bytes = Encodes bytes r

-- The next byte was taken and put behind these; or none was to come.
abbrev pub TakesByte : Input → Input → List ℕ → List ℕ → Bool → Type 0
TakesByte s t old new true = (b : ℕ) × (TookKept s t (b ∷ []) × (new ≡ old ++ (b ∷ [])))
TakesByte s t old new false =
    Stays s t × IfSome s.to_come (λ bs. bs ≡ []) × (new ≡ old)

-- The item is whole with the bytes; or they are the front of one, for all that they show.
abbrev pub IsWhole : ℕ → List ℕ → Bool → Type 0
IsWhole levels bytes true = HasItem levels bytes (length bytes)
IsWhole levels bytes false = IsUnfinished levels bytes

-- The next byte was taken and put behind these, and it is said whether the item is whole with it.
pub record TakesMore (levels : ℕ) (s t : Input) (old new : List ℕ) (whole : Bool) : Type 0 where
  pub took : TakesByte s t old new true
  pub item : IsWhole levels new whole
