-- The words for a call on a deserializer, which is seen before and after it: those of `Takes` and
-- `Forms`, of the inputs that its source stands for, the levels that are left and the formats that are
-- read.
use Rattle.std.specs.Prelude.{◌≡◌, ◌<◌, ℕ, Bool, true, false, Result, Ok, Err, Option}
use Rattle.cbor_model.specs.Raw.{Raw}
use Rattle.cbor_io.specs.declared.error.Error.{Error}
use Rattle.cbor_io.specs.declared.read_error.ReadErrorCode.{ReadErrorCode}
use Rattle.cbor_read.specs.Source.{Input}
use Rattle.cbor_decode.specs.Decoder.{SameSettings}
use Rattle.cbor_decode.specs.Steps as step
use Rattle.cbor_decode_as.specs.DecoderCalls as decoder
use Rattle.cbor_decode_as.specs.Takes as input
use Rattle.cbor_decode_as.specs.Takes.{WhereTotal, formats_of}
use Rattle.cbor_de.specs.Forms as form
use Rattle.cbor_de.specs.Forms.{WrongForms}
use Rattle.cbor_de.specs.declared.de.Deserializer.{Deserializer}

-- what a call gave for the item at the front; or that no such item is there
abbrev pub TakesItem : {R A : Type 0} → (R → Input) → (ReadErrorCode → Bool) → (Raw → A → Type 0)
    → Deserializer R → Deserializer R → Result A Error → Type 0
TakesItem seen refusals reads old new result =
    decoder.TakesItem seen refusals reads old.decoder new.decoder result

-- what a call gave for the item at the front where it looked at the bytes at hand alone; or that it took
-- nothing
abbrev pub TakesAtHand : {R A : Type 0} → (R → Input) → (ReadErrorCode → Bool) → (Raw → A → Type 0)
    → Deserializer R → Deserializer R → Option A → Type 0
TakesAtHand seen refusals reads old new result =
    decoder.TakesAtHand seen refusals reads old.decoder new.decoder result

-- what a call gave for the item at the front where its source could bring it to hand; or that it took
-- nothing
abbrev pub TakesGathered : {R A : Type 0} → (R → Input) → (ReadErrorCode → Bool)
    → (Raw → A → Type 0) → Deserializer R → Deserializer R → Option A → Type 0
TakesGathered seen refusals reads old new result =
    decoder.TakesGathered seen refusals reads old.decoder new.decoder result

-- a byte at the least was taken
abbrev pub Advances : {R : Type 0} → (R → Input) → Deserializer R → Deserializer R → Type 0
Advances seen old new = step.Advances seen old.decoder new.decoder

-- some bytes were taken from the front, and counted
abbrev pub TookSome : {R : Type 0} → (R → Input) → Deserializer R → Deserializer R → Type 0
TookSome seen old new = step.TookSome seen old.decoder new.decoder

-- Where memory ran out, the item that is read as something is one for which memory may be asked.
abbrev pub MemoryFor : {R A : Type 0} → (R → Input) → (Raw → Type 0) → (Raw → A → Type 0)
    → Deserializer R → Error → Type 0
MemoryFor seen asks reads old e = decoder.MemoryFor seen asks reads old.decoder e

-- Where memory ran out, no item that is read as something is at the front.
abbrev pub TakesNoMemory : {R A : Type 0} → (R → Input) → (Raw → A → Type 0) → Deserializer R
    → Error → Type 0
TakesNoMemory seen reads old e = decoder.TakesNoMemory seen reads old.decoder e

-- A refusal reports the fault of the item at the front, and is a message exactly where an item stands there.
abbrev pub RefusesWhole : {R : Type 0} → (R → Input) → (ReadErrorCode → Bool) → Deserializer R
    → Error → Type 0
RefusesWhole seen refusals old e = decoder.RefusesWhole seen refusals old.decoder e

-- An item stands at the front, or the refusal is one of what stands there.
abbrev pub ReadsWhole : {R A : Type 0} → (R → Input) → (ReadErrorCode → Bool) → Deserializer R
    → Result A Error → Type 0
ReadsWhole seen refusals old result = decoder.ReadsWhole seen refusals old.decoder result

-- Where a type reads every item, a refusal reports the fault of the item at the front; and where it
-- passes over what it doesn't read, that fault too, and of an item it is a message.
abbrev pub ReportsItem : {R : Type 0} → (R → Input) → (ReadErrorCode → Bool) → Bool → Bool
    → Deserializer R → Error → Type 0
ReportsItem seen refusals passes_over total old e =
    input.ReportsItem passes_over total refusals (formats_of old.decoder.formats) old.decoder.levels (seen old.decoder.source) e

-- Where a type's refusals report the faults of the bytes: the fault of the item at the front, if the error
-- reports one.
abbrev pub OwnFault : {R : Type 0} → (R → Input) → (ReadErrorCode → Bool) → Bool → Deserializer R
    → Error → Type 0
OwnFault seen refusals reports_faults old e =
    WhereTotal reports_faults (input.ItemFault refusals old.decoder.levels (seen old.decoder.source) e)

-- Whether the refusals of a type report the faults of the bytes: it says so, or it passes over every item
-- or reads it.
abbrev pub reports_any : Bool → Bool → Bool → Bool
reports_any true total reports_faults = true
reports_any false true reports_faults = true
reports_any false false reports_faults = reports_faults

-- Both do.
abbrev pub and_reports : Bool → Bool → Bool
and_reports true other = other
and_reports false other = false

-- The error reports no wrong form; or one that may be reported.
abbrev pub MayReport : {R : Type 0} → (R → Input) → WrongForms → Deserializer R → Error → Type 0
MayReport seen forms old e =
    form.MayReport forms (formats_of old.decoder.formats) (seen old.decoder.source) e

-- ---- what stays

-- Out of what an access is of so many levels are left, and the same formats are read.
pub record BackTo {R : Type 0} (outer : ℕ) (old new : Deserializer R) : Type 0 where
  pub levels : new.decoder.levels ≡ outer
  pub formats : new.decoder.formats ≡ old.decoder.formats

-- Within what an access is of the settings stay, and a refusal leaves it.
abbrev pub StaysInside : {R A : Type 0} → ℕ → Deserializer R → Deserializer R → Result A Error
    → Type 0
StaysInside outer old new (Ok x) = SameSettings old.decoder new.decoder
StaysInside outer old new (Err e) = BackTo outer old new

-- Within what an access is of fewer levels are left than those outside it, which it holds, and the same
-- formats are read.
pub record Within {R : Type 0} (levels held : ℕ) (old now : Deserializer R) : Type 0 where
  pub outer : held ≡ levels
  pub inside : now.decoder.levels < held
  pub formats : now.decoder.formats ≡ old.decoder.formats
