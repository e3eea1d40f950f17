-- Why reading stopped, and where.
use Rattle.std.specs.Prelude.{◌≡◌, ℕ}
use Rattle.cbor_io.specs.declared.read_error.ReadError.{ReadError}
use Rattle.cbor_io.specs.declared.read_error.ReadErrorCode.{ReadErrorCode}
use Rattle.cbor_io.specs.declared.read_error.ReadErrorCode.TheVariants as read
pub use Rattle.cbor_io.specs.Place.{error_code, HasNoPlace}

abbrev pub why : ReadError → ReadErrorCode
why r = r.code

abbrev pub place : ReadError → ℕ
place r = r.offset

-- an allocation failed
abbrev pub IsMemory : ReadError → Type 0
IsMemory r = (r.code ≡ read.OutOfMemory) × (r.offset ≡ 0)
