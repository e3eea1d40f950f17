-- A whole input that is read as one item.
use Rattle.std.specs.Prelude.{◌⊎◌, ◌+◌, ℕ, Bool, List, [], ◌∷◌, length, true, false, Option, None, Result, Ok, Err, IfOk, IfErr, MatchResult, refl}
use Rattle.std.proofs.Common.{arith}
use Rattle.cbor_model.specs.Raw as raw
use Rattle.cbor_model.specs.Raw.{Raw, null_item}
use Rattle.cbor_model.specs.Formats.{Formats, all_formats}
use Rattle.cbor_model.specs.Laws.{SpellsValue}
use Rattle.cbor_model.specs.Readable.{Context, IsBool, SpellsAs}
use Rattle.cbor_model.specs.Spelling.{spell}
use Rattle.cbor_model.specs.Acceptable.{max_depth, FitsScratch}
use Rattle.cbor_model.specs.Allowed.{limits_of}
use Rattle.cbor_model.specs.RawReader.{Begins}
use Rattle.cbor_model.specs.Plain.{Val}
use Rattle.cbor_model.specs.Reader.{Fault, Reads, item_at}
use Rattle.cbor_io.specs.declared.error.Error.{Error}
use Rattle.cbor_io.specs.declared.error.ErrorCode.{ErrorCode}
use Rattle.cbor_io.specs.declared.error.ErrorCode.TheVariants.{EofWhileParsingValue}
use Rattle.cbor_io.specs.declared.error.ErrorCode.TheVariants.{EofWhileParsingArray}
use Rattle.cbor_io.specs.declared.error.ErrorCode.TheVariants.{EofWhileParsingMap, LengthOutOfRange}
use Rattle.cbor_io.specs.declared.error.ErrorCode.TheVariants.{InvalidUtf8, Io, UnassignedCode}
use Rattle.cbor_io.specs.declared.error.ErrorCode.TheVariants.{UnexpectedCode, ScratchTooSmall}
use Rattle.cbor_io.specs.declared.error.ErrorCode.TheVariants.{RecursionLimitExceeded}
use Rattle.cbor_io.specs.declared.read_error.ReadErrorCode.{ReadErrorCode}
use Rattle.cbor_io.specs.Error.{IsOutOfMemory, code_of, offset_of}
use Rattle.cbor_read.specs.Source.{Input, Asks}
use Rattle.cbor_decode.specs.FirstRefusal.{ReportsFirst}
use Rattle.cbor_decode.specs.Gives.{FailsBy, limits, Reports, ReportsIo, whole_at}
use Rattle.cbor_decode_as.specs.Takes.{raws, IsRead, IsNotRead, ExcusedBy, ReportsFault}
use Rattle.cbor_decode_as.specs.Takes.{FaultOrMessage, IsMessage, ReportsIfAny, ReportsOf, WhereTotal}
use Rattle.cbor_decode_as.specs.Takes.{any_item}
use Rattle.cbor_de.specs.Calls.{reports_any}

-- The one item that a source has to give is read as x, where so many levels are left.
abbrev pub IsWholeRead : {A : Type 0} → Formats → (Raw → A → Type 0) → ℕ → Input → List ℕ → A
    → Type 0
IsWholeRead f reads levels s bs x = IsRead reads (item_at (raws f (limits s bs)) levels bs) x []

-- What all that a source has to give is read as; or that it isn't such an item.
abbrev pub ReadsAll : {A : Type 0} → (ReadErrorCode → Bool) → Formats → (Raw → A → Type 0) → ℕ
    → Input → Result A Error → Type 0
ReadsAll refusals f reads levels s (Ok x) =
    (bs : List ℕ) → Reports s bs → IsWholeRead f reads levels s bs x
ReadsAll {A} refusals f reads levels s (Err e) = (bs : List ℕ) → Reports s bs → ExcusedBy (ReportsIo refusals) (code_of e) (offset_of e) ⊎ ((x : A) → IsWholeRead f reads levels s bs x → ⊥)

-- Some item that the reference reader reads is read as something, whatever follows it.
pub record IsSomeRead {A : Type 0} (reads : Raw → A → Type 0) (read : Reads Raw) : Type 0 where
  pub value : A
  pub rest : List ℕ
  pub is : IsRead reads read value rest

-- Nothing that is read stands at the front, and a refusal reports the fault of what does, or is a message
-- where an item does.
abbrev pub RefusesFront : {A : Type 0} → Type 0 → ErrorCode → ℕ → ℕ → (Raw → A → Type 0) → Reads Raw
    → Reads Val → Type 0
RefusesFront Device code end at reads spelt front =
    FaultOrMessage Device code end at front × (ExcusedBy Device code at ⊎ IsNotRead reads spelt)

-- An item that is read stands at the front, and a refusal reports that more follows it.
abbrev pub RefusesRest : {A B : Type 0} → Type 0 → ErrorCode → ℕ → ℕ → (Raw → A → Type 0) → Reads Raw
    → Result B Fault → Type 0
RefusesRest Device code end at reads spelt whole =
    FailsBy Device code end at whole × IsSomeRead reads spelt

-- A refusal of all that a source has to give reports the fault of what stands at its front, or is a message
-- where an item does that isn't read; or it reports that more follows an item that is read.
abbrev pub RefusesAll : {A : Type 0} → (ReadErrorCode → Bool) → Formats → (Raw → A → Type 0) → ℕ
    → Input → Error → Type 0
RefusesAll refusals f reads levels s e = (bs : List ℕ) → Reports s bs →
    RefusesFront (ReportsIo refusals) (code_of e) (s.offset + length bs) (offset_of e) reads (item_at (raws f (limits s bs)) levels bs) (any_item levels (limits s bs) bs)
    ⊎ RefusesRest (ReportsIo refusals) (code_of e) (s.offset + length bs) (offset_of e) reads (item_at (raws f (limits s bs)) levels bs) (whole_at f levels (limits s bs) bs)

-- Where a type reads every item, a refusal reports the fault of the one item that a source has to give,
-- or that more follows it; and where it passes over what it doesn't read, it is one of these.
abbrev pub ReportsWhole : {A : Type 0} → Bool → Bool → (ReadErrorCode → Bool) → Formats
    → (Raw → A → Type 0) → ℕ → Input → Error → Type 0
ReportsWhole passes_over total refusals f reads levels s e =
    ReportsOf passes_over total (ReportsFault refusals (whole_at f levels) s e) (RefusesAll refusals f reads levels s e)

-- The bytes begin with an acceptable item, whose chunks fit the scratch, that isn't read as anything.
pub record BeginsUnread {A : Type 0} (reads : Raw → A → Type 0) (scratch : Option ℕ) (bytes : List ℕ) : Type 0 where
  pub item : Raw
  pub rest : List ℕ
  pub begins : Begins max_depth bytes item rest
  pub joins : FitsScratch scratch item
  pub unread : (x : A) → reads item x → ⊥

-- A refusal by a type that passes over an item that it doesn't read: a message where the bytes begin
-- with such an item, and the first refusal that the bytes allow where they don't.
abbrev pub RefusesUnread : {A : Type 0} → (Raw → A → Type 0) → Option ℕ → List ℕ → Error → Type 0
RefusesUnread reads scratch bytes e =
    (IsMessage e × BeginsUnread reads scratch bytes)
    ⊎ (ReportsFirst (limits_of scratch) bytes e × (BeginsUnread reads scratch bytes → ⊥))

-- ---- the faults of the bytes

-- The fault of the one item that a source has to give, or that more follows it, if the error reports one,
-- whatever formats its keys are of.
abbrev pub WholeFault : (ReadErrorCode → Bool) → ℕ → Input → Error → Type 0
WholeFault refusals levels s e = ReportsIfAny refusals (whole_at all_formats levels) s e

-- the codes that report a fault of the input, of its bytes or of what gives them, and nothing else
abbrev pub IsOfInput : ErrorCode → Type 0
IsOfInput (Io fault) = Unit {0}
IsOfInput EofWhileParsingValue = Unit {0}
IsOfInput EofWhileParsingArray = Unit {0}
IsOfInput EofWhileParsingMap = Unit {0}
IsOfInput LengthOutOfRange = Unit {0}
IsOfInput InvalidUtf8 = Unit {0}
IsOfInput UnassignedCode = Unit {0}
IsOfInput UnexpectedCode = Unit {0}
IsOfInput RecursionLimitExceeded = Unit {0}
IsOfInput ScratchTooSmall = Unit {0}
IsOfInput _ = ⊥

-- Where a type's refusals report the faults of the bytes, one by such a code is the first that the bytes
-- allow, or excused.
abbrev pub ReportsOwn : Bool → (Error → Type 0) → Option ℕ → List ℕ → Error → Type 0
ReportsOwn reports_faults Excused scratch bytes e = WhereTotal reports_faults
    (IsOfInput (code_of e) → Excused e ⊎ ReportsFirst (limits_of scratch) bytes e)

-- ---- what is answered

-- What a call answers that reads these bytes, the whole of them, as a type. Excused are errors that may come
-- whatever the bytes are: that memory ran out, and of a reader the fault of its device.
pub record Answers {A : Type 0} (passes_over total reports_faults : Bool) (reads : Raw → A → Type 0)
    (asks : Raw → Type 0) (Excused : Error → Type 0) (scratch : Option ℕ) (bytes : List ℕ)
    (result : Result A Error) : Type 0 where
  -- The bytes encode an acceptable item, and it is read so.
  pub found : IfOk result (SpellsAs all_formats reads bytes)
  -- Each such item whose chunks fit the scratch is read, but for what is excused,
  pub accepted : (x : A) → (spelt : SpellsAs all_formats reads bytes x)
      → FitsScratch scratch spelt.item → IfErr result Excused
  -- and memory runs out only for one for which the type may ask for it.
  pub memory : (x : A) → (spelt : SpellsAs all_formats reads bytes x)
      → FitsScratch scratch spelt.item → IfErr result (λ e. IsOutOfMemory e → asks spelt.item)
  -- The acceptable item that the bytes encode is the one that is read; and where the type reads every
  -- item, it is read, but for what is excused.
  pub every : (v : Val) → (spelt : SpellsValue bytes v) → FitsScratch scratch spelt.item
      → MatchResult result (reads spelt.item) (λ e. WhereTotal total (Excused e))
  -- A refusal by a type that reads every item is the first that the bytes allow, or excused;
  pub first : IfErr result (λ e. WhereTotal total
      (Excused e ⊎ ReportsFirst (limits_of scratch) bytes e))
  -- by one that passes over what it doesn't read, a message if the bytes begin with such an item, and the
  -- first that they allow if they don't;
  pub fault : IfErr result (λ e. WhereTotal passes_over
      (Excused e ⊎ RefusesUnread reads scratch bytes e))
  -- and by one that reports the faults of the bytes, the first that they allow, or excused, where its code is
  -- that of a fault.
  pub own_fault : IfErr result
      (ReportsOwn (reports_any passes_over total reports_faults) Excused scratch bytes)

-- ---- what is lent

-- What a slice lends: definite strings, for its whole life.
abbrev pub from_slice_context : Context
from_slice_context = record { formats = all_formats; lends_definite = true; lends_joined = false }

-- What a slice that is rewritten lends: definite strings, and strings in chunks.
abbrev pub from_mut_slice_context : Context
from_mut_slice_context =
    record { formats = all_formats; lends_definite = true; lends_joined = true }

-- A reader lends nothing.
abbrev pub from_reader_context : Context
from_reader_context = record { formats = all_formats; lends_definite = false; lends_joined = false }

-- A slice asks for memory to join chunks alone.
abbrev pub from_slice_asks : Asks
from_slice_asks = record { whole = false; joined = true }

-- One with a scratch, and one that is rewritten, ask for none.
abbrev pub asks_none : Asks
asks_none = record { whole = false; joined = false }

-- A reader asks for memory for each string.
abbrev pub from_reader_asks : Asks
from_reader_asks = record { whole = true; joined = true }

-- ---- examples

-- f6, null, isn't read as a bool
null_is_no_bool : BeginsUnread IsBool None (0xf6 ∷ [])
unfolding spell
null_is_no_bool = record {
  item = raw.simple null_item;
  rest = [];
  begins = record { spelled = refl; acceptable = record { fits = tt; nests = omega arith; texts = tt } };
  joins = tt;
  unread = λ x is. is;
}
