-- What a call takes of its source that reads a type: `Takes` is the word for calls, which return an
-- error; for the steps of a decoder, which keep why they were refused, it is `Gives` (`cbor_decode`).
use Rattle.std.specs.Prelude.{⊤, ◌≡◌, ◌+◌, ℕ, Bool, true, false, List, [], ◌∷◌, length, None, Result, Ok}
use Rattle.std.specs.Prelude.{Err, ◌⊎◌, String, refl}
use Rattle.std.specs.Global.{Global}
use Rattle.cbor_model.specs.Raw.{Raw}
use Rattle.cbor_model.specs.Formats as model
use Rattle.cbor_model.specs.Formats.{all_formats}
use Rattle.cbor_model.specs.Plain.{Val}
use Rattle.cbor_model.specs.Readable.{Context}
use Rattle.cbor_model.specs.Reader.{Fault, Reads, item_at, item_by, byte_at, after_first}
use Rattle.cbor_model.specs.Reader.{content_at, number_behind, text_at}
use Rattle.cbor_io.specs.declared.error.Error.{Error}
use Rattle.cbor_io.specs.declared.error.ErrorCode.{ErrorCode}
use Rattle.cbor_io.specs.declared.error.ErrorCode.TheVariants.{EofWhileParsingValue, Io, Message}
use Rattle.cbor_io.specs.declared.error.ErrorCode.TheVariants.{OutOfMemory, ArrayTooShort}
use Rattle.cbor_io.specs.declared.error.ErrorCode.TheVariants.{ArrayTooLong, WrongEnumFormat}
use Rattle.cbor_io.specs.declared.error.ErrorCode.TheVariants.{WrongStructFormat, NotCanonical}
use Rattle.cbor_io.specs.declared.error.ErrorCode.TheVariants.{TrailingData}
use Rattle.cbor_io.specs.declared.read_error.ReadErrorCode.{ReadErrorCode}
use Rattle.cbor_io.specs.Error.{code_of, offset_of, IsMessageOf}
use Rattle.cbor_read.specs.Source.{Input, Lends, TookSome}
use Rattle.cbor_decode.specs.Gives.{Limits, limits, values, Reports, Step, ReportsIo, FailsBy}
use Rattle.cbor_decode.specs.declared.formats.Formats.{Formats}
pub use Rattle.cbor_decode.specs.Decoder.{formats_of}
pub use Rattle.cbor_decode.specs.HasChunks.{raws}

-- these formats are read, and so much is lent
abbrev pub lending : model.Formats → Lends → Context
lending f l = record { formats = f; lends_definite = l.whole; lends_joined = l.joined }

abbrev pub context : Formats → Lends → Context
context f l = lending (formats_of f) l

-- The item that the reference reader reads is read as x, and the rest follows it.
pub record IsRead {A : Type 0} (reads : Raw → A → Type 0) (read : Reads Raw) (x : A) (rest : List ℕ) : Type 0 where
  pub item : Raw
  pub is : read ≡ Ok (item, rest)
  pub means : reads item x

-- No item that is read as something is at the front.
abbrev pub IsNotRead : {A : Type 0} → (Raw → A → Type 0) → Reads Raw → Type 0
IsNotRead {A} reads read = (x : A) (rest : List ℕ) → IsRead reads read x rest → ⊥

-- an allocation failed; or the device has a fault, where there can be one
abbrev pub ExcusedBy : Type 0 → ErrorCode → ℕ → Type 0
ExcusedBy Device OutOfMemory at = at ≡ 0
ExcusedBy Device (Io fault) at = Device × (at ≡ 0)
ExcusedBy Device _ at = ⊥

-- A call was refused, and left t: some of the bytes to come were taken from their front, and counted;
-- and it was by lack of memory or a fault of the device, or N holds of the bytes that were to come.
pub record Refuses (refusals : ReadErrorCode → Bool) (s t : Input) (code : ErrorCode) (at : ℕ) (N : Limits → List ℕ → Type 0) : Type 0 where
  pub took : TookSome s t
  pub reported : (bs : List ℕ) → Reports s bs → ExcusedBy (ReportsIo refusals) code at ⊎ N (limits s bs) bs

-- the refusal, whatever was taken of the input
abbrev pub WhateverTaken : Input → (Input → Error → Type 0) → Error → Type 0
WhateverTaken s refused e = (t : Input) → TookSome s t → refused t e

-- What a call gave for the item at the front, and the bytes to come after it; or that no such item is
-- there. Refused, some of the bytes to come were taken from their front, and counted.
abbrev pub Takes : {A : Type 0} → (ReadErrorCode → Bool) → (Raw → A → Type 0)
    → (Limits → List ℕ → Reads Raw) → Input → Input → Result A Error → Type 0
Takes refusals reads read s t (Ok x) = Step s t (λ l bs rest. IsRead reads (read l bs) x rest)
Takes refusals reads read s t (Err e) =
    Refuses refusals s t (code_of e) (offset_of e) (λ l bs. IsNotRead reads (read l bs))

-- what a call gave for the item at the front, where so many levels are left
abbrev pub TakesItem : {A : Type 0} → (ReadErrorCode → Bool) → model.Formats → (Raw → A → Type 0)
    → ℕ → Input → Input → Result A Error → Type 0
TakesItem refusals f reads levels s t r =
    Takes refusals reads (λ l. item_at (raws f l) levels) s t r

-- ---- memory

-- Where memory ran out, the item that is read as something is one for which memory may be asked.
abbrev pub MemoryFor : {A : Type 0} → (Raw → Type 0) → model.Formats → (Raw → A → Type 0) → ℕ
    → Input → Error → Type 0
MemoryFor {A} asks f reads levels s e = code_of e ≡ OutOfMemory → (bs : List ℕ) → Reports s bs
    → (x : A) (rest : List ℕ) → (got : IsRead reads (item_at (raws f (limits s bs)) levels bs) x rest)
    → asks got.item

-- Where memory ran out, no item that is read as something is at the front.
abbrev pub TakesNoMemory : {A : Type 0} → model.Formats → (Raw → A → Type 0) → ℕ → Input → Error
    → Type 0
TakesNoMemory f reads levels s e = MemoryFor (λ r. ⊥) f reads levels s e

-- Of the item at the front, if one is there, P holds.
abbrev pub OfItem : (Raw → Type 0) → model.Formats → ℕ → Input → Type 0
OfItem P f levels s = (bs : List ℕ) → Reports s bs → (r : Raw) (rest : List ℕ) → item_at (raws f (limits s bs)) levels bs ≡ Ok (r, rest) → P r

-- ---- errors that are still to be made

-- What a call gives whose error is still to be made of why it was refused.
abbrev pub OnceMade : {A W : Type 0} → (W → Error → Type 0) → (Result A Error → Type 0)
    → Result A W → Type 0
OnceMade made takes (Ok x) = takes (Ok x)
OnceMade made takes (Err w) = (e : Error) → made w e → takes (Err e)

-- ---- the fault that is reported

-- claimed where a type reads every item
abbrev pub WhereTotal : Bool → Type 0 → Type 0
WhereTotal false P = Unit {0}
WhereTotal true P = P

-- The error reports the fault that the reference reader meets in this reading.
abbrev pub ReportsFault : {A : Type 0} → (ReadErrorCode → Bool) → (Limits → List ℕ → Reads A) → Input
    → Error → Type 0
ReportsFault refusals read s e = (bs : List ℕ) → Reports s bs → FailsBy (ReportsIo refusals) (code_of e) (s.offset + length bs) (offset_of e) (read (limits s bs) bs)

-- The code and the offset report the fault that a reading meets, if they report one of the bytes: a
-- message doesn't, nor a wrong form, nor that items are left of an array or a map.
abbrev pub FaultIfAny : {A : Type 0} → Type 0 → ErrorCode → ℕ → ℕ → Result A Fault → Type 0
FaultIfAny Device (Message s) end at read = at ≡ 0
FaultIfAny Device ArrayTooShort end at read = ⊤
FaultIfAny Device ArrayTooLong end at read = ⊤
FaultIfAny Device WrongEnumFormat end at read = ⊤
FaultIfAny Device WrongStructFormat end at read = ⊤
FaultIfAny Device NotCanonical end at read = ⊤
FaultIfAny Device TrailingData end at read = ⊤
FaultIfAny {A = A} Device code end at read = FailsBy {A = A} Device code end at read

-- the fault of a reading, if the error reports one
abbrev pub ReportsIfAny : {A : Type 0} → (ReadErrorCode → Bool) → (Limits → List ℕ → Reads A) → Input
    → Error → Type 0
ReportsIfAny refusals read s e = (bs : List ℕ) → Reports s bs → FaultIfAny (ReportsIo refusals) (code_of e) (s.offset + length bs) (offset_of e) (read (limits s bs) bs)

-- ---- the fault, or a message for the item that is there

-- a message, which has no place, or excused
abbrev pub IsMessageBy : Type 0 → ErrorCode → ℕ → Type 0
IsMessageBy Device (Message s) at = at ≡ 0
IsMessageBy Device code at = ExcusedBy Device code at

-- The code and the offset report the fault that a reading meets; of what it reads they are a message.
abbrev pub FaultOrMessage : {A : Type 0} → Type 0 → ErrorCode → ℕ → ℕ → Result A Fault → Type 0
FaultOrMessage {A = A} Device code end at (Ok x) = IsMessageBy Device code at
FaultOrMessage {A = A} Device code end at (Err f) = FailsBy {A = A} Device code end at (Err f)

-- the item at the front, whatever formats its keys are of
abbrev pub any_item : ℕ → Limits → List ℕ → Reads Val
any_item levels l = item_at (values all_formats l) levels

-- The fault of the item at the front, if the error reports one, whatever formats its keys are of.
abbrev pub ItemFault : (ReadErrorCode → Bool) → ℕ → Input → Error → Type 0
ItemFault refusals levels s e = ReportsIfAny refusals (any_item levels) s e

-- A refusal reports the fault of the item at the front, where so many levels are left; and it is a
-- message exactly where an item stands there. Lack of memory and a device's fault may come in place of
-- either.
abbrev pub RefusesWhole : (ReadErrorCode → Bool) → ℕ → Input → Error → Type 0
RefusesWhole refusals levels s e = (bs : List ℕ) → Reports s bs → FaultOrMessage (ReportsIo refusals) (code_of e) (s.offset + length bs) (offset_of e) (any_item levels (limits s bs) bs)

-- an item stands at the front, where so many levels are left
abbrev pub HasItem : ℕ → Input → Type 0
HasItem levels s = (bs : List ℕ) → Reports s bs → (v : Val) × (rest : List ℕ) × (any_item levels (limits s bs) bs ≡ Ok (v, rest))

-- an item stands at the front, or the refusal is one of what stands there
abbrev pub ReadsWhole : {A : Type 0} → (ReadErrorCode → Bool) → ℕ → Input → Result A Error → Type 0
ReadsWhole refusals levels s (Ok x) = HasItem levels s
ReadsWhole refusals levels s (Err e) = RefusesWhole refusals levels s e

-- a message, or memory ran out for it
abbrev pub IsMessage : Error → Type 0
IsMessage e = IsMessageOf None (code_of e) × (offset_of e ≡ 0)

-- ---- what a type's refusal reports

-- P is claimed where a type reads every item, and Q where it passes over those that it doesn't read.
abbrev pub ReportsOf : Bool → Bool → Type 0 → Type 0 → Type 0
ReportsOf false total P Q = WhereTotal total P
ReportsOf true false P Q = Q
ReportsOf true true P Q = P × Q

-- Where a type reads every item, a refusal reports the fault of the item at the front; and where it passes
-- over an item that it doesn't read, a refusal reports that fault too, and of an item it is a message.
abbrev pub ReportsItem : Bool → Bool → (ReadErrorCode → Bool) → model.Formats → ℕ → Input → Error → Type 0
ReportsItem passes_over total refusals f levels s e =
    ReportsOf passes_over total (ReportsFault refusals (λ l. item_at (values f l) levels) s e) (RefusesWhole refusals levels s e)

-- ---- examples

-- 61 as a number: the text is cut off
cut_off : FaultOrMessage ⊥ EofWhileParsingValue 1 1 (any_item 127 (record { total = 1; room = None }) (0x61 ∷ []))
unfolding item_at item_by byte_at after_first content_at number_behind text_at
cut_off = (0, refl, refl)

-- 01 as a text: a message, which has no place
another_kind : (m : String Global) → FaultOrMessage ⊥ (Message m) 1 0 (any_item 127 (record { total = 1; room = None }) (0x01 ∷ []))
unfolding item_at item_by byte_at after_first content_at number_behind
another_kind m = refl
