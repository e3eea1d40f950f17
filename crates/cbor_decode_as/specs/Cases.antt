-- Where an error may stand that reports an array too short or too long, or a form that isn't read.
use Rattle.std.specs.Prelude.{⊤, ◌≡◌, ◌+◌, ◌⊎◌, ℕ, Bool, false, List, [], ◌∷◌, length}
use Rattle.std.specs.Prelude.{Some, None, Ok}
use Rattle.cbor_model.specs.Formats.{Formats}
use Rattle.cbor_model.specs.Refusal.{end_in_array, end_in_map, wrong_struct_format}
use Rattle.cbor_model.specs.Reader.{next_at}
use Rattle.cbor_model.specs.Reader as reader
use Rattle.cbor_io.specs.declared.error.Error.{Error}
use Rattle.cbor_io.specs.declared.error.ErrorCode.{ErrorCode}
use Rattle.cbor_io.specs.declared.error.ErrorCode.TheVariants.{ArrayTooShort, ArrayTooLong}
use Rattle.cbor_io.specs.declared.error.ErrorCode.TheVariants.{WrongEnumFormat, WrongStructFormat}
use Rattle.cbor_io.specs.declared.error.ErrorCode.TheVariants.{NotCanonical}
use Rattle.cbor_io.specs.declared.read_error.ReadErrorCode.{ReadErrorCode}
use Rattle.cbor_io.specs.Error.{code_of, offset_of}
use Rattle.cbor_read.specs.Source.{Input}
use Rattle.cbor_decode.specs.Gives.{FailsAs, Limits, limits, ReportsIo, Reports, ReportsNoForm}
use Rattle.cbor_decode.specs.Heads.{remaining_of}
use Rattle.cbor_decode.specs.declared.cursor.Remaining.{Remaining}
use Rattle.cbor_decode.specs.declared.head.Head.TheVariants.{Array}
use Rattle.cbor_decode_as.specs.Begins.{Begins}
use Rattle.cbor_decode_as.specs.MapAccesses.{key_front}
use Rattle.cbor_decode_as.specs.Takes.{ExcusedBy}
use Rattle.cbor_decode_as.specs.Variants.{pair_head_at, reads_shape, shape_of}
use Rattle.cbor_decode_as.specs.Tags.{passed_at}
use Rattle.cbor_decode_as.specs.declared.variant.Form.{Form}
use Rattle.cbor_decode_as.specs.declared.variant.Form.TheVariants as form

-- what has to hold of the offset that an error of each of these codes reports
pub record Cases : Type 1 where
  pub too_short : ℕ → Type 0
  pub too_long : ℕ → Type 0
  pub wrong_enum : ℕ → Type 0
  pub wrong_struct : ℕ → Type 0

-- The case of this code stands at the offset; other codes have none. Strict reading alone reports that a
-- spelling isn't canonical.
abbrev pub CaseHolds : Cases → ErrorCode → ℕ → Type 0
CaseHolds cases ArrayTooShort at = cases.too_short at
CaseHolds cases ArrayTooLong at = cases.too_long at
CaseHolds cases WrongEnumFormat at = cases.wrong_enum at
CaseHolds cases WrongStructFormat at = cases.wrong_struct at
CaseHolds cases NotCanonical at = ⊥
CaseHolds cases code at = ⊤

-- Where an error has one of these codes, its case stands.
pub record HasCase (s : Input) (e : Error) (cases : Limits → List ℕ → Cases) : Type 0 where
  pub reported : (bs : List ℕ) → Reports s bs → CaseHolds (cases (limits s bs) bs) (code_of e) (offset_of e)

-- Of the codes that report a wrong form, this alone.
abbrev pub FormAlone : ErrorCode → ErrorCode → Type 0
FormAlone one code = ReportsNoForm code ⊎ (code ≡ one)

-- ---- the key rule

-- Another pair comes of a map of which so much remains, and its key may not begin as it does.
pub record IsBadKey (f : Formats) (remaining : reader.Remaining) (l : Limits) (bs : List ℕ) (at : ℕ) : Type 0 where
  pub behind : reader.Remaining
  pub key : List ℕ
  pub comes : next_at end_in_map remaining bs ≡ Ok (Some behind, key)
  pub refused : FailsAs wrong_struct_format l.total at (key_front f key)

-- of the next key of a map
abbrev pub key_cases : Formats → Remaining → Limits → List ℕ → Cases
key_cases f remaining l bs = record {
  too_short = λ at. ⊥;
  too_long = λ at. ⊥;
  wrong_enum = λ at. ⊥;
  wrong_struct = IsBadKey f (remaining_of remaining) l bs;
}

-- Where the next key may not begin as it does, that is reported, at the key.
abbrev pub ReportsBadKey : (ReadErrorCode → Bool) → Formats → Remaining → Input → Error → Type 0
ReportsBadKey refusals f remaining s e = (bs : List ℕ) → Reports s bs → (at : ℕ)
    → IsBadKey f (remaining_of remaining) (limits s bs) bs at
    → ExcusedBy (ReportsIo refusals) (code_of e) (offset_of e)
    ⊎ ((code_of e ≡ WrongStructFormat) × (offset_of e ≡ at))

-- ---- enums

-- no item comes of an array of which so much remains
abbrev pub NoItem : Remaining → List ℕ → Type 0
NoItem remaining bs =
    (after : List ℕ) × (next_at end_in_array (remaining_of remaining) bs ≡ Ok (None, after))

-- no item comes at the present offset, and this code reports it
pub record NoItemHere (none : ErrorCode) (remaining : Remaining) (s : Input) (e : Error) : Type 0 where
  pub code : code_of e ≡ none
  pub place : offset_of e ≡ s.offset
  pub reported : (bs : List ℕ) → Reports s bs → NoItem remaining bs

-- An array begins at the front, and at this offset, where its first item would stand, none comes.
pub record IsEmptyArray (levels : ℕ) (l : Limits) (bs : List ℕ) (at : ℕ) : Type 0 where
  pub left : ℕ
  pub remaining : Remaining
  pub rest : List ℕ
  pub head : Begins Array levels left remaining bs rest
  pub place : at + length rest ≡ l.total
  pub none : NoItem remaining rest

-- at this offset, the present one, an enum begins in a form that isn't read
abbrev pub IsInOtherForm : Formats → Limits → List ℕ → ℕ → Type 0
IsInOtherForm f l [] at = ⊥
IsInOtherForm f l (b ∷ bs) at = (at + length (b ∷ bs) ≡ l.total) × (reads_shape f (shape_of b) ≡ false)

-- of the form of an enum
abbrev pub form_cases : Formats → Limits → List ℕ → Cases
form_cases f l bs = record {
  too_short = λ at. ⊥;
  too_long = λ at. ⊥;
  wrong_enum = IsInOtherForm f l bs;
  wrong_struct = λ at. ⊥;
}

-- at this offset the key stands of a map of one pair, and may not begin as it does
abbrev pub IsBadPair : Formats → ℕ → Limits → List ℕ → ℕ → Type 0
IsBadPair f levels l bs at = FailsAs wrong_struct_format l.total at (pair_head_at f levels bs)

-- Of the codes that report a wrong form, those of an enum up to its identifier.
abbrev pub IsEnumCode : ErrorCode → Type 0
IsEnumCode ArrayTooLong = ⊥
IsEnumCode NotCanonical = ⊥
IsEnumCode code = ⊤

-- of an enum within no tag
abbrev pub untagged_cases : Formats → ℕ → Limits → List ℕ → Cases
untagged_cases f levels l bs = record {
  too_short = IsEmptyArray levels l bs;
  too_long = λ at. ⊥;
  wrong_enum = IsInOtherForm f l bs;
  wrong_struct = IsBadPair f levels l bs;
}

-- what holds after all tags at the front, whatever follows them
pub record BehindTags (levels : ℕ) (bs : List ℕ) (P : ℕ → List ℕ → Type 0) : Type 0 where
  pub left : ℕ
  pub rest : List ℕ
  pub tags : passed_at levels bs ≡ Ok (left, rest)
  pub holds : P left rest

-- of an enum
abbrev pub enum_cases : Formats → ℕ → Limits → List ℕ → Cases
enum_cases f levels l bs = record {
  too_short = λ at. BehindTags levels bs (λ left rest. IsEmptyArray left l rest at);
  too_long = λ at. ⊥;
  wrong_enum = λ at. BehindTags levels bs (λ left rest. IsInOtherForm f l rest at);
  wrong_struct = λ at. BehindTags levels bs (λ left rest. IsBadPair f left l rest at);
}

-- nothing follows the identifier of an enum that is an array
abbrev pub NothingFollows : Form → List ℕ → Type 0
NothingFollows (form.Array remaining) bs = NoItem remaining bs
NothingFollows f bs = ⊥

-- of a variant of no part
abbrev pub unit_cases : Form → Limits → List ℕ → Cases
unit_cases form l bs = record {
  too_short = λ at. ⊥;
  too_long = λ at. (at + length bs ≡ l.total) × NothingFollows form bs;
  wrong_enum = λ at. ⊥;
  wrong_struct = λ at. ⊥;
}

-- Where nothing follows, that is reported, at the present offset.
abbrev pub ReportsTooShort : (ReadErrorCode → Bool) → Form → Input → Error → Type 0
ReportsTooShort refusals form s e = (bs : List ℕ) → Reports s bs → NothingFollows form bs
    → ExcusedBy (ReportsIo refusals) (code_of e) (offset_of e)
    ⊎ ((code_of e ≡ ArrayTooShort) × (offset_of e ≡ s.offset))
