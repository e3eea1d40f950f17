-- What a refusal of a variant's content reports, behind its identifier, and where it asks for memory.
use Rattle.std.specs.Prelude.{⊤, ◌≡◌, ◌≢◌, ◌⊎◌, ℕ, Bool, List, [], ◌∷◌, Ok, refl}
use Rattle.cbor_model.specs.Formats.{Formats, all_formats}
use Rattle.cbor_model.specs.Raw.{Raw}
use Rattle.cbor_model.specs.Readable.{IsUnit, PassesTags}
use Rattle.cbor_model.specs.Refusal.{end_in_array}
use Rattle.cbor_model.specs.Reader.{Reads, item_at, items_of, next_at, parts_at, parts_by}
use Rattle.cbor_io.specs.declared.error.Error.{Error}
use Rattle.cbor_io.specs.declared.error.ErrorCode.TheVariants.{ArrayTooShort, OutOfMemory}
use Rattle.cbor_io.specs.declared.read_error.ReadErrorCode.{ReadErrorCode}
use Rattle.cbor_io.specs.Error.{code_of}
use Rattle.cbor_read.specs.Source.{Input}
use Rattle.cbor_decode.specs.Cursor.{ended_at}
use Rattle.cbor_decode.specs.Gives.{Limits, limits, Reports, Step, values}
use Rattle.cbor_decode.specs.Heads.{passed, remaining_of}
use Rattle.cbor_decode.specs.declared.cursor.Remaining.{Remaining}
use Rattle.cbor_decode.specs.declared.cursor.Remaining.TheVariants.{ToBreak}
use Rattle.cbor_decode.specs.declared.head.Head.TheVariants.{Array}
use Rattle.cbor_decode_as.specs.Accesses.{IsNextItem, NextComes}
use Rattle.cbor_decode_as.specs.Begins.{BeginningFault, MemoryForOther}
use Rattle.cbor_decode_as.specs.BeginsEnum.{ItemComes}
use Rattle.cbor_decode_as.specs.Cases.{NoItemHere}
use Rattle.cbor_decode_as.specs.Takes.{raws, IsMessage, IsRead, MemoryFor, ReportsFault}
use Rattle.cbor_decode_as.specs.Takes.{ReportsIfAny, any_item}
use Rattle.cbor_decode_as.specs.declared.variant.Form.{Form}
use Rattle.cbor_decode_as.specs.declared.variant.Form.TheVariants as form

-- ---- the fault

-- The content of an enum in this form, as the reference reader passes over it, whatever formats its keys
-- are of: the items that remain of its array, the item in its map, or nothing.
abbrev pub any_content : ℕ → Form → Limits → List ℕ → Reads (Unit {0})
any_content left (form.Array remaining) l bs =
    passed (parts_at (items_of (values all_formats l) (any_item left l)) (remaining_of remaining) bs)
any_content left form.Map l bs = passed (any_item left l bs)
any_content left form.Alone l bs = Ok (tt, bs)

-- A refusal reports the fault of the content, if it reports one.
abbrev pub ContentFault : (ReadErrorCode → Bool) → ℕ → Form → Input → Error → Type 0
ContentFault refusals left form s e = ReportsIfAny refusals (any_content left form) s e

-- The next item of an array was read as something, and the error reports the fault of the end behind it.
pub record EndFault {A : Type 0} (refusals : ReadErrorCode → Bool) (reads : Raw → A → Type 0) (f : Formats) (left : ℕ) (remaining : Remaining) (s : Input) (e : Error) : Type 0 where
  pub behind : Remaining
  pub part : A
  pub place : Input
  pub step : Step s place (IsNextItem reads f left (remaining_of remaining) (remaining_of behind) part)
  pub fault : ReportsFault refusals (λ l. ended_at end_in_array (remaining_of behind)) place e

-- The one part of a variant: of an item that stands there a refusal reports what its type does; in an
-- array, that it isn't known whether an item comes, or none does, or what the end behind it is in the
-- place of. Of an identifier alone it is a message.
abbrev pub PartFault : {A : Type 0} → (ReadErrorCode → Bool) → (Input → Error → Type 0)
    → (Raw → A → Type 0) → Formats → ℕ → Form → Input → Error → Type 0
PartFault refusals own reads f left (form.Array remaining) s e =
    (ReportsFault refusals (λ l. next_at end_in_array (remaining_of remaining)) s e
    ⊎ NoItemHere ArrayTooShort remaining s e)
    ⊎ (NextComes remaining s (λ t. own t e) ⊎ EndFault refusals reads f left remaining s e)
PartFault refusals own reads f left form.Map s e = own s e
PartFault refusals own reads f left form.Alone s e = IsMessage e

-- Before the parts of a variant of several: a refusal reports the fault of the item in the map, or is a
-- message on one that is no array; or it is the message on an identifier alone. In an array nothing is
-- refused there.
abbrev pub PartsFault : (ReadErrorCode → Bool) → ℕ → Form → Input → Error → Type 0
PartsFault refusals left (form.Array remaining) s e = ⊥
PartsFault refusals left form.Map s e = BeginningFault Array refusals left s e
PartsFault refusals left form.Alone s e = IsMessage e

-- ---- memory

-- What is read there as something is an item for which memory may be asked.
abbrev pub AsksThere : {A : Type 0} → (Raw → Type 0) → Formats → (Raw → A → Type 0) → ℕ → Limits
    → List ℕ → Type 0
AsksThere {A} asks f reads left l bs = (x : A) (rest : List ℕ)
    → (got : IsRead reads (item_at (raws f l) left bs) x rest) → asks got.item

-- Where memory ran out for the one part, it was asked for what may ask it: in an array an item comes.
-- Of an identifier alone it was asked for the message.
abbrev pub MemoryForPart : {A : Type 0} → (Raw → Type 0) → Formats → (Raw → A → Type 0) → ℕ → Form
    → Input → Error → Type 0
MemoryForPart asks f reads left (form.Array remaining) s e = code_of e ≡ OutOfMemory
    → (bs : List ℕ) → Reports s bs → ItemComes remaining (AsksThere asks f reads left (limits s bs)) bs
MemoryForPart asks f reads left form.Map s e = MemoryFor asks f reads left s e
MemoryForPart asks f reads left form.Alone s e = ⊤

-- of a variant of no part, for the message on what stands in the place of null
abbrev pub MemoryForNull : Formats → ℕ → Form → Input → Error → Type 0
MemoryForNull f left (form.Array remaining) s e =
    MemoryForPart (λ r. ⊥) f (PassesTags IsUnit) left (form.Array remaining) s e
MemoryForNull f left form.Map s e = MemoryFor (λ r. ⊥) f (PassesTags IsUnit) left s e
MemoryForNull f left form.Alone s e = code_of e ≢ OutOfMemory

-- of a variant of several, for the message on what is no array, or on an identifier alone
abbrev pub MemoryForParts : ℕ → Form → Input → Error → Type 0
MemoryForParts left (form.Array remaining) s e = code_of e ≢ OutOfMemory
MemoryForParts left form.Map s e = MemoryForOther Array left s e
MemoryForParts left form.Alone s e = ⊤

-- ---- examples

-- of an array that ends, an identifier alone
nothing_left : (l : Limits) → any_content 127 (form.Array ToBreak) l (0xff ∷ []) ≡ Ok (tt, [])
unfolding next_at parts_by
nothing_left l = refl
