-- By which codes a type may refuse an item for its form, and where.
use Rattle.std.specs.Prelude.{⊤, ◌⊎◌, ◌+◌, ◌≡◌, ℕ, Bool, true, false, List, length, refl}
use Rattle.cbor_model.specs.Formats.{Formats}
use Rattle.cbor_model.specs.Refusal.{wrong_struct_format}
use Rattle.cbor_model.specs.Reader.{item_at}
use Rattle.cbor_io.specs.declared.error.Error.{Error}
use Rattle.cbor_io.specs.declared.error.ErrorCode.{ErrorCode}
use Rattle.cbor_io.specs.declared.error.ErrorCode.TheVariants.{ArrayTooShort, ArrayTooLong}
use Rattle.cbor_io.specs.declared.error.ErrorCode.TheVariants.{WrongEnumFormat, WrongStructFormat}
use Rattle.cbor_io.specs.Error.{code_of, offset_of}
use Rattle.cbor_read.specs.Source.{Input, TookSome}
use Rattle.cbor_decode.specs.Gives.{FailsAs, Limits, Step, Reports, ReportsNoForm, limits}
use Rattle.cbor_decode.specs.Heads.{remaining_of}
use Rattle.cbor_decode.specs.declared.cursor.Remaining.{Remaining}
use Rattle.cbor_decode_as.specs.BeginsEnum.{BeginsVariant}
use Rattle.cbor_decode_as.specs.Cases.{BehindTags, IsBadKey, IsBadPair, IsEmptyArray}
use Rattle.cbor_decode_as.specs.Cases.{IsInOtherForm, NothingFollows}
use Rattle.cbor_decode_as.specs.Takes.{raws}
use Rattle.cbor_decode_as.specs.declared.variant.Form.{Form}

-- What a refusal may report of a wrong form: nothing; or that this holds of the formats that are read, of
-- the input from a place on that was reached, and of the error.
pub data WrongForms : Type 1 where
  never : WrongForms
  reported : (Formats → Input → Error → Type 0) → WrongForms

-- At a place that was reached, behind some of the bytes to come or none, this holds of the error.
pub record Reached (P : Input → Error → Type 0) (s : Input) (e : Error) : Type 0 where
  pub place : Input
  pub took : TookSome s place
  pub holds : P place e

-- The error reports no wrong form; or one that may be reported.
abbrev pub MayReport : WrongForms → Formats → Input → Error → Type 0
MayReport never f s e = ReportsNoForm (code_of e)
MayReport (reported P) f s e = ReportsNoForm (code_of e) ⊎ Reached (P f) s e

-- what either of two parts may report
abbrev pub any_of : WrongForms → WrongForms → WrongForms
any_of never b = b
any_of (reported P) never = reported P
any_of (reported P) (reported Q) = reported (λ f s e. P f s e ⊎ Q f s e)

-- any code, anywhere
abbrev pub any_form : WrongForms
any_form = reported (λ f s e. ⊤)

-- whether a wrong form may be reported at all
abbrev pub may_report : WrongForms → Bool
may_report never = false
may_report (reported P) = true

-- The code reports a wrong form only where one may be reported.
abbrev pub FormOnlyIf : Bool → ErrorCode → Type 0
FormOnlyIf true code = ⊤
FormOnlyIf false code = ReportsNoForm code

-- ---- of each kind

-- The error has this code, and of the bytes to come this holds of its offset.
pub record ReportsAt (code : ErrorCode) (P : Limits → List ℕ → ℕ → Type 0) (s : Input) (e : Error) : Type 0 where
  pub is : code_of e ≡ code
  pub reported : (bs : List ℕ) → Reports s bs → P (limits s bs) bs (offset_of e)

-- Of a map of which so much remains, the next key may not begin as it does, and the offset is that key's.
abbrev pub ReportsKey : Formats → Remaining → Input → Error → Type 0
ReportsKey f remaining s e = ReportsAt WrongStructFormat (IsBadKey f (remaining_of remaining)) s e

-- What the reading of the next key may report: that it may not begin as it does; of one that may, what its
-- type reports.
abbrev pub MayReportKey : WrongForms → Formats → Remaining → Input → Error → Type 0
MayReportKey forms f remaining s e = MayReport forms f s e ⊎ ReportsKey f remaining s e

-- The reference reader meets such a key in the item at the front, and the offset is that key's.
abbrev pub IsBadWithin : Formats → ℕ → Limits → List ℕ → ℕ → Type 0
IsBadWithin f levels l bs at = FailsAs wrong_struct_format l.total at (item_at (raws f l) levels bs)

abbrev pub ReportsWithin : Formats → Input → Error → Type 0
ReportsWithin f s e = (levels : ℕ) × ReportsAt WrongStructFormat (IsBadWithin f levels) s e

-- of an item that holds maps, or is one: of a key of theirs
abbrev pub key_form : WrongForms
key_form = reported ReportsWithin

-- An enum begins in a form that isn't read, its array has no item, or the key of its map may not begin as
-- it does, behind its tags.
abbrev pub ReportsBeginning : Formats → ℕ → Input → Error → Type 0
ReportsBeginning f levels s e =
    ReportsAt WrongEnumFormat (λ l bs at. BehindTags levels bs (λ left rest. IsInOtherForm f l rest at)) s e
    ⊎ ReportsAt ArrayTooShort (λ l bs at. BehindTags levels bs (λ left rest. IsEmptyArray left l rest at)) s e
    ⊎ ReportsAt WrongStructFormat (λ l bs at. BehindTags levels bs (λ left rest. IsBadPair f left l rest at)) s e

abbrev pub ReportsEnum : Formats → Input → Error → Type 0
ReportsEnum f s e = (levels : ℕ) × ReportsBeginning f levels s e

-- of an enum up to its identifier
abbrev pub enum_form : WrongForms
enum_form = reported ReportsEnum

-- An enum begins at the front in an array, and at this offset, where the first part would stand, nothing
-- follows its identifier.
pub record IsNameAlone (f : Formats) (levels : ℕ) (l : Limits) (bs : List ℕ) (at : ℕ) : Type 0 where
  pub names : List (List ℕ)
  pub left : ℕ
  pub index : ℕ
  pub form : Form
  pub rest : List ℕ
  pub begins : BeginsVariant f names l levels left index form bs rest
  pub nothing : NothingFollows form rest
  pub place : at + length rest ≡ l.total

abbrev pub ReportsNameAlone : ErrorCode → Formats → Input → Error → Type 0
ReportsNameAlone code f s e = (levels : ℕ) × ReportsAt code (IsNameAlone f levels) s e

-- of an enum, at a variant of no part, which asks for a null within an array
abbrev pub unit_form : WrongForms
unit_form = reported (ReportsNameAlone ArrayTooLong)

-- of an enum, at a variant of one part
abbrev pub part_form : WrongForms
part_form = reported (ReportsNameAlone ArrayTooShort)

-- Of an enum in this form, nothing follows the identifier, and this code reports it, at the present offset.
pub record ReportsNothing (code : ErrorCode) (form : Form) (s : Input) (e : Error) : Type 0 where
  pub is : code_of e ≡ code
  pub place : offset_of e ≡ s.offset
  pub reported : (bs : List ℕ) → Reports s bs → NothingFollows form bs

-- What the reading of a variant's one part may report, behind the identifier: that nothing follows; of a
-- part that does, what its type reports.
abbrev pub MayReportPart : WrongForms → Formats → Form → Input → Error → Type 0
MayReportPart forms f form s e = MayReport forms f s e ⊎ ReportsNothing ArrayTooShort form s e

-- An enum in this form was taken from s on up to its identifier.
pub record Began (f : Formats) (form : Form) (s t : Input) : Type 0 where
  pub names : List (List ℕ)
  pub levels : ℕ
  pub left : ℕ
  pub index : ℕ
  pub step : Step s t (λ l bs rest. BeginsVariant f names l levels left index form bs rest)

-- What the content of an enum in this form may report, whichever enum it is of.
abbrev pub MayReportContent : WrongForms → Formats → Form → Input → Error → Type 0
MayReportContent forms f form t e = (s : Input) → Began f form s t → MayReport forms f s e

-- ---- examples

-- a pair of numbers
pair_of_numbers : any_of never never ≡ never
pair_of_numbers = refl

-- a struct of two numbers: what any struct may report
struct_of_numbers : any_of key_form (any_of never (any_of never never)) ≡ key_form
struct_of_numbers = refl
