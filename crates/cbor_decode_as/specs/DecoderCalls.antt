-- The words for a call on a decoder, which is seen before and after it: those of `Takes`, of the inputs
-- that its source stands for, the levels that are left and the formats that are read.
use Rattle.std.specs.Prelude.{◌≡◌, Bool, Result, Ok, Option, Some, None}
use Rattle.cbor_model.specs.Raw.{Raw}
use Rattle.cbor_io.specs.declared.error.Error.{Error}
use Rattle.cbor_io.specs.declared.read_error.ReadErrorCode.{ReadErrorCode}
use Rattle.cbor_read.specs.Source.{Input, Stays}
use Rattle.cbor_decode.specs.declared.Decoder.{Decoder}
use Rattle.cbor_decode_as.specs.Takes as input
use Rattle.cbor_decode_as.specs.Takes.{formats_of}

-- what a call gave for the item at the front; or that no such item is there
abbrev pub TakesItem : {R A : Type 0} → (R → Input) → (ReadErrorCode → Bool) → (Raw → A → Type 0)
    → Decoder R → Decoder R → Result A Error → Type 0
TakesItem seen refusals reads old new result =
    input.TakesItem refusals (formats_of old.formats) reads old.levels (seen old.source) (seen new.source) result

-- what a call gave for the item at the front where it looked at the bytes at hand alone; or that it took
-- nothing
abbrev pub TakesAtHand : {R A : Type 0} → (R → Input) → (ReadErrorCode → Bool) → (Raw → A → Type 0)
    → Decoder R → Decoder R → Option A → Type 0
TakesAtHand seen refusals reads old new (Some x) = TakesItem seen refusals reads old new (Ok x)
TakesAtHand seen refusals reads old new None = seen new.source ≡ seen old.source

-- what a call gave for the item at the front where its source could bring it to hand; or that it took
-- nothing
abbrev pub TakesGathered : {R A : Type 0} → (R → Input) → (ReadErrorCode → Bool)
    → (Raw → A → Type 0) → Decoder R → Decoder R → Option A → Type 0
TakesGathered seen refusals reads old new (Some x) = TakesItem seen refusals reads old new (Ok x)
TakesGathered seen refusals reads old new None = Stays (seen old.source) (seen new.source)

-- Where memory ran out, the item that is read as something is one for which memory may be asked.
abbrev pub MemoryFor : {R A : Type 0} → (R → Input) → (Raw → Type 0) → (Raw → A → Type 0)
    → Decoder R → Error → Type 0
MemoryFor seen asks reads old e =
    input.MemoryFor asks (formats_of old.formats) reads old.levels (seen old.source) e

-- Where memory ran out, no item that is read as something is at the front.
abbrev pub TakesNoMemory : {R A : Type 0} → (R → Input) → (Raw → A → Type 0) → Decoder R → Error
    → Type 0
TakesNoMemory seen reads old e =
    input.TakesNoMemory (formats_of old.formats) reads old.levels (seen old.source) e

-- A refusal reports the fault of the item at the front, and is a message exactly where an item stands there.
abbrev pub RefusesWhole : {R : Type 0} → (R → Input) → (ReadErrorCode → Bool) → Decoder R → Error
    → Type 0
RefusesWhole seen refusals old e = input.RefusesWhole refusals old.levels (seen old.source) e

-- An item stands at the front, or the refusal is one of what stands there.
abbrev pub ReadsWhole : {R A : Type 0} → (R → Input) → (ReadErrorCode → Bool) → Decoder R
    → Result A Error → Type 0
ReadsWhole seen refusals old result = input.ReadsWhole refusals old.levels (seen old.source) result
