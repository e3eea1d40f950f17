-- Byte strings of a length that the type says.
use Rattle.std.specs.Prelude.{◌≡◌, ℕ, List, length, Result, Ok, Err}
use Rattle.cbor_value.specs.declared.bytes.ByteArray.{ByteArray}
use Rattle.cbor_io.specs.declared.error.Error.{Error}

-- the array that these bytes are, or that they are none, of another length
abbrev pub IsArrayOf : (n : ℕ) → List ℕ → Result (ByteArray n) Error → Type 0
IsArrayOf n b (Ok x) = (x.0 ≡ b) × (length b ≡ n)
IsArrayOf n b (Err e) = length b ≡ n → ⊥
