-- Why a document isn't read back, where a form's call writes it and the form's rules read that.
use Rattle.std.specs.Prelude.{◌≡◌, ◌⊎◌, ℕ, ◌<◌, ◌≤◌, List, None}
use Rattle.cbor_model.specs.Acceptable.{max_depth}
use Rattle.cbor_model.specs.Allowed.{IsFirstRefusal, limits_of}
use Rattle.cbor_model.specs.Canonical.{canonical}
use Rattle.cbor_model.specs.Document.{Doc, IsStorableDocument}
use Rattle.cbor_model.specs.Plain.{Val}
use Rattle.cbor_model.specs.Raw.{depth}
use Rattle.cbor_model.specs.Refusal.{too_deep}
use Rattle.cbor_io.specs.declared.error.Error.{Error}
use Rattle.cbor_io.specs.declared.error.ErrorCode.TheVariants.{RecursionLimitExceeded}
use Rattle.cbor_io.specs.Error.{code_of, offset_of}
use Rattle.cbor_convert.specs.Meaning.{value_of}
use Rattle.cbor_forms.specs.Deterministic.{IsNotWrittenIn}
use Rattle.cbor_forms.specs.Shortened.{Allows, rewritten}
use Rattle.cbor_forms.specs.declared.values.Form.{Form}
use Rattle.cbor_rules.specs.declared.answers.Refusal.{Refusal}
use Rattle.cbor_rules.specs.declared.answers.Refusal.TheVariants.{Unread, Departs}

-- The form's call writes it, unless memory runs out: CBOR stores each of its integers, and the form
-- allows its value.
abbrev pub IsWritable : Form → Doc → Type 0
IsWritable form d = IsStorableDocument d × Allows form (value_of d)

-- It is written, and the value that is written of it nests at most the 127 levels that are read.
abbrev pub IsReadable : Form → Doc → Type 0
IsReadable form d = IsWritable form d × (depth (canonical (rewritten form (value_of d))) ≤ max_depth)

-- The value of these bytes nests deeper than is read, and the error says so, at the offset of the
-- first opening that is too deep.
pub record IsNestedTooDeep (v : Val) (bytes : List ℕ) (e : Error) : Type 0 where
  pub deeper : max_depth < depth (canonical v)
  pub code : code_of e ≡ RecursionLimitExceeded
  pub first : IsFirstRefusal (limits_of None) bytes too_deep (offset_of e)

-- The form's call refuses it so, or memory ran out; or it is written, in bytes that are nested too
-- deep. No departure is reported: what is written keeps the form's rules.
abbrev pub IsNotReadBack : Form → (Val → List ℕ) → Doc → Refusal → Type 0
IsNotReadBack form encoding d (Unread e) =
    IsNotWrittenIn form (IsStorableDocument d) (Allows form (value_of d)) e
    ⊎ (IsWritable form d
    × IsNestedTooDeep (rewritten form (value_of d)) (encoding (rewritten form (value_of d))) e)
IsNotReadBack form encoding d (Departs departure) = ⊥
