-- The core deterministic encoding (RFC 8949, section 4.2.1), and dCBOR's.
use Rattle.std.specs.Prelude.{◌≡◌, ◌⊎◌, ℕ, List}
use Rattle.cbor_model.specs.Plain.{Val}
use Rattle.cbor_io.specs.declared.error.Error.{Error}
use Rattle.cbor_io.specs.declared.error.ErrorCode.{ErrorCode}
use Rattle.cbor_io.specs.declared.error.ErrorCode.TheVariants.{Message, OutOfMemory}
use Rattle.cbor_io.specs.Error.{code_of, offset_of}
use Rattle.cbor_ser.specs.Bytes.{IsCanonicalSpelling}
use Rattle.cbor_ser.specs.Written.{IsUnstorableCode}
use Rattle.cbor_forms.specs.Shortened.{shortened, reduced, IsReasonCode}
use Rattle.cbor_forms.specs.declared.values.Form.{Form}

-- The bytes are the canonical spelling (shortest heads, definite lengths, keys in the order of
-- their bytes) of the value with each float at its shortest.
abbrev pub IsDeterministicSpelling : List ℕ → Val → Type 0
IsDeterministicSpelling bytes v = IsCanonicalSpelling bytes (shortened v)

-- likewise with dCBOR's numbers
abbrev pub IsDcborSpelling : List ℕ → Val → Type 0
IsDcborSpelling bytes v = IsCanonicalSpelling bytes (reduced v)

-- What is refused with this code is so for lack of memory, because it isn't storable, or because
-- the form doesn't allow it.
abbrev pub IsRefusedBy : Form → ErrorCode → Type 0 → Type 0 → Type 0
IsRefusedBy form (Message text) storable allows =
    (IsUnstorableCode (Message text) × ¬ storable) ⊎ (IsReasonCode form (Message text) × ¬ allows)
IsRefusedBy form OutOfMemory storable allows = Unit {0}
IsRefusedBy form _ storable allows = ⊥

abbrev pub IsNotWrittenIn : Form → Type 0 → Type 0 → Error → Type 0
IsNotWrittenIn form storable allows e =
    IsRefusedBy form (code_of e) storable allows × (offset_of e ≡ 0)
