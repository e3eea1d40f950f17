-- Where memory may run out.
use Rattle.std.specs.Prelude.{⊤, ◌≡◌, ℕ, Bool, true, List, Ok}
use Rattle.cbor_model.specs.Plain.{Val, bytes, text, array, map, tag}
use Rattle.cbor_model.specs.Reader.{Reads}
use Rattle.cbor_io.specs.ReadError.{why}
use Rattle.cbor_io.specs.declared.read_error.ReadError.{ReadError}
use Rattle.cbor_io.specs.declared.read_error.ReadErrorCode.{ReadErrorCode}
use Rattle.cbor_io.specs.declared.read_error.ReadErrorCode.TheVariants as reading
use Rattle.cbor_read.specs.Source.{Input, Lends, asks_for}
use Rattle.cbor_decode.specs.Gives.{Limits, limits, Reports}
use Rattle.cbor_decode.specs.declared.head.Head.{Head}
use Rattle.cbor_decode.specs.declared.head.Head.TheVariants as head
use Rattle.cbor_decode.specs.declared.refusal.Refused.{Refused}
use Rattle.cbor_decode.specs.declared.refusal.Refused.TheVariants as refused

-- Where memory ran out, P holds.
abbrev pub MemoryOnly : Type 0 → ReadError → Refused → Type 0
MemoryOnly P kept refused.OutOfMemory = P
MemoryOnly P kept refused.Kept = why kept ≡ reading.OutOfMemory → P

-- ---- by the source

-- memory may be asked for to join chunks
abbrev pub AsksToJoin : (ReadErrorCode → Bool) → Lends → Type 0
AsksToJoin refusals lends = (asks_for refusals lends).joined ≡ true

-- ---- by the item

-- a value that is kept in memory of its own: a string, or what holds other items
abbrev pub IsStored : Val → Type 0
IsStored (bytes b) = ⊤
IsStored (text b) = ⊤
IsStored (array vs) = ⊤
IsStored (map ps) = ⊤
IsStored (tag n v) = ⊤
IsStored _ = ⊥

-- a head of such an item
abbrev pub IsStoredHead : Head → Type 0
IsStoredHead (head.Bytes n) = ⊤
IsStoredHead (head.Text n) = ⊤
IsStoredHead (head.Array n) = ⊤
IsStoredHead (head.Map n) = ⊤
IsStoredHead (head.Tag n) = ⊤
IsStoredHead _ = ⊥

-- a value that is read from s is kept in memory of its own
abbrev pub ReadsStored : (Limits → List ℕ → Reads Val) → Input → Type 0
ReadsStored read s = (bs : List ℕ) → Reports s bs → (v : Val) (rest : List ℕ) → read (limits s bs) bs ≡ Ok (v, rest) → IsStored v
