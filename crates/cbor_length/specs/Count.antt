-- What a count was given, and what it refuses.
use Rattle.std.specs.Prelude.{◌≡◌, ◌⊎◌, ℕ, List, length}
use Rattle.cbor_model.specs.Document.{Doc, IsStorableDocument}
use Rattle.cbor_io.specs.Error.{code_of, offset_of}
use Rattle.cbor_io.specs.declared.error.Error.{Error}
use Rattle.cbor_io.specs.declared.error.ErrorCode.TheVariants.{LengthOutOfRange}
use Rattle.cbor_ser.specs.Written.{SaysUnstorable}
use Rattle.cbor_length.specs.declared.count.ByteCount.{ByteCount}

-- the bytes that it was given
abbrev pub counted_bytes : ByteCount → List ℕ
counted_bytes c = c.trace.bytes

-- a piece that goes beyond 2^64 - 1 bytes, after those that were counted
abbrev pub IsTooLong : ByteCount → Error → Type 0
IsTooLong c e = (code_of e ≡ LengthOutOfRange) × (offset_of e ≡ length (counted_bytes c))

-- The document is too long, or has a number that isn't stored.
abbrev pub IsNotCounted : Doc → Error → Type 0
IsNotCounted d e =
    (code_of e ≡ LengthOutOfRange) ⊎ ((IsStorableDocument d → ⊥) × SaysUnstorable e)
