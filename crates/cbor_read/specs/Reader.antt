-- What the calls of a reader do, with a byte of it that may have been peeked.
use Rattle.std.specs.Prelude.{◌≡◌, ℕ, ◌^◌, ◌-◌, ◌≤◌, if◌then◌else◌, nat_lt, List, [], ◌∷◌, length}
use Rattle.std.specs.Prelude.{take, Option, Some, None, Result, Ok, Err}
use Rattle.std.specs.Io.KnownBytes.{Consumes, Keeps, IsAtEnd}
use Rattle.cbor_io.specs.ReadError.{why, place, error_code}
use Rattle.cbor_read.specs.Source.{Input, TookKept, RefusedByte, reader_refusals}
use Rattle.cbor_io.specs.Write.{IsFaultCode}
use Rattle.cbor_io.specs.declared.read_error.ReadError.{ReadError}

-- the peeked byte, where the offset can count it
abbrev pub peeked_at : ℕ → Option ℕ → Option ℕ
peeked_at offset peeked = if nat_lt offset (2 ^ 64 - 1) then peeked else None

-- ---- calls of the reader

-- a fault that the reader reported
abbrev pub IsFault : ReadError → Type 0
IsFault e = IsFaultCode (error_code (why e)) × (place e ≡ 0)

-- the next byte was read, or the end was met
abbrev pub ByteRead : Option (List ℕ) → Option (List ℕ) → Result (Option ℕ) ReadError → Type 0
ByteRead old new (Ok (Some b)) = Consumes old new (b ∷ [])
ByteRead old new (Ok None) = Keeps old new × IsAtEnd old
ByteRead old new (Err e) = Keeps old new × IsFault e

-- a byte is peeked, or the end was met
abbrev pub Filled : Option (List ℕ) → Option ℕ → Result Unit ReadError → Type 0
Filled to_come peeked (Ok u) = peeked ≡ None → IsAtEnd to_come
Filled to_come peeked (Err e) = IsFault e

-- Some of the next bytes were read to the front of a piece: at most so many, and none only at the
-- end.
abbrev pub SomeRead : Option (List ℕ) → Option (List ℕ) → ℕ → List ℕ → Result ℕ ReadError → Type 0
SomeRead old new most piece (Ok n) =
    (n ≤ most) × Consumes old new (take n piece) × (n ≡ 0 → IsAtEnd new)
SomeRead old new most piece (Err e) = Keeps old new × IsFault e

-- A source took these bytes from its reader, and counted them.
abbrev pub PieceTaken : Input → Input → List ℕ → Result ℕ ReadError → Type 0
PieceTaken s t piece (Ok n) =
    (n ≤ length piece) × TookKept s t (take n piece) × (n ≡ 0 → IsAtEnd s.to_come)
PieceTaken s t piece (Err e) = RefusedByte reader_refusals s t e
