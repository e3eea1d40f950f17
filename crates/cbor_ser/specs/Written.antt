-- What the writer of a value answers.
use Rattle.std.specs.Prelude.{◌≡◌, ◌⊎◌, codes}
use Rattle.std.specs.String.{string_bytes}
use Rattle.cbor_model.specs.Plain.{Val}
use Rattle.cbor_model.specs.Canonical.{IsStorable}
use Rattle.cbor_model.specs.Document.{Doc, IsStorableDocument}
use Rattle.cbor_io.specs.declared.error.ErrorCode.{ErrorCode}
use Rattle.cbor_io.specs.declared.error.ErrorCode.TheVariants.{Message, OutOfMemory}
use Rattle.cbor_io.specs.declared.error.Error.{Error}
use Rattle.cbor_io.specs.Error.{code_of, offset_of}

-- What is refused with this code is so for lack of memory, or because it isn't storable.
abbrev pub IsRefusedBy : ErrorCode → Type 0 → Type 0
IsRefusedBy (Message text) storable = (string_bytes text ≡ codes "The number can't be stored in CBOR") × (storable → ⊥)
IsRefusedBy OutOfMemory storable = Unit {0}
IsRefusedBy _ storable = ⊥

abbrev pub IsNotWritten : Type 0 → Error → Type 0
IsNotWritten storable e = IsRefusedBy (code_of e) storable × (offset_of e ≡ 0)

-- the words of a number that isn't stored, or no memory for them
abbrev pub IsUnstorableCode : ErrorCode → Type 0
IsUnstorableCode (Message text) = string_bytes text ≡ codes "The number can't be stored in CBOR"
IsUnstorableCode OutOfMemory = Unit {0}
IsUnstorableCode _ = ⊥

abbrev pub SaysUnstorable : Error → Type 0
SaysUnstorable e = IsUnstorableCode (code_of e) × (offset_of e ≡ 0)

-- A value that isn't storable: the refusal says so, or found no memory for its words.
abbrev pub IsUnstorable : Val → Error → Type 0
IsUnstorable v e = (IsStorable v → ⊥) × SaysUnstorable e

-- one of the sink's errors, or a number in the document that isn't stored
abbrev pub DocumentRefused : {W : Type 0} → (W → Error → Type 0) → W → Doc → Error → Type 0
DocumentRefused refuses w d e = refuses w e ⊎ ((IsStorableDocument d → ⊥) × SaysUnstorable e)
