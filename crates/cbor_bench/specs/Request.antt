-- What is asked for, and what doing it shows.
use Rattle.std.specs.Prelude.{◌≡◌, ◌⊎◌, ℕ, ◌≤◌, List, ◌∷◌, Option, Some, None, Vec}
use Rattle.std.specs.declared.alloc.Global.{Global}
use Rattle.cbor_model.specs.Plain.{Val}
use Rattle.cbor_model.specs.Allowed.{limits_of}
use Rattle.cbor_model.specs.Canonical.{canon}
use Rattle.cbor_model.specs.Laws.{SpellsValue}
use Rattle.serde_cbor.specs.declared.error.Error.{Error}
use Rattle.serde_cbor.specs.Error.{IsOutOfMemory}
use Rattle.serde_cbor.specs.FirstRefusal.{ReportsFirst}
use Rattle.cbor_bench.specs.Record.{SpellsRecords, AreRewritten}
use Rattle.cbor_bench.specs.declared.request.Task.{Task}
use Rattle.cbor_bench.specs.declared.request.Task.TheVariants.{Read, ReadAndWrite, ReadRecords, ReadAndWriteRecords}
use Rattle.cbor_bench.specs.declared.request.Request.{Request}

-- the byte that asks for a task
abbrev pub code_of : Task → ℕ
code_of Read = 0
code_of ReadAndWrite = 1
code_of ReadRecords = 2
code_of ReadAndWriteRecords = 3

-- The input has the byte of a task, a byte for how many times, and the item's bytes.
abbrev pub IsRequest : List ℕ → Type 0
IsRequest (code ∷ times ∷ item) = code ≤ 3
IsRequest _ = ⊥

-- The input asks for this.
abbrev pub IsRequestOf : List ℕ → Request → Type 0
IsRequestOf input request = input ≡ code_of request.task ∷ request.times ∷ request.item.now

-- the bytes spell an acceptable item
abbrev pub SpellsItem : List ℕ → Type 0
SpellsItem bytes = (v : Val) × SpellsValue bytes v

-- these are the canonical spelling of the value that the bytes spell
abbrev pub IsRewritten : (bytes written : List ℕ) → Type 0
IsRewritten bytes written = (v : Val) × SpellsValue bytes v × (written ≡ canon v)

-- What a task leaves of the bytes: nothing, where they were read; what was written.
abbrev pub Leaves : Task → List ℕ → Option (Vec ℕ Global) → Type 0
Leaves Read bytes None = SpellsItem bytes
Leaves ReadAndWrite bytes (Some written) = IsRewritten bytes written.items
Leaves ReadRecords bytes None = SpellsRecords bytes
Leaves ReadAndWriteRecords bytes (Some written) = AreRewritten bytes written.items
Leaves _ bytes _ = ⊥

-- the bytes spell what a task reads
abbrev pub IsReadFor : Task → List ℕ → Type 0
IsReadFor Read bytes = SpellsItem bytes
IsReadFor ReadAndWrite bytes = SpellsItem bytes
IsReadFor ReadRecords bytes = SpellsRecords bytes
IsReadFor ReadAndWriteRecords bytes = SpellsRecords bytes

-- Of bytes that are read as a value, a refusal reports the first that they allow, or that memory ran out.
-- Of records it may report any fault.
abbrev pub Refuses : Task → List ℕ → Error → Type 0
Refuses Read bytes e = IsOutOfMemory e ⊎ ReportsFirst (limits_of None) bytes e
Refuses ReadAndWrite bytes e = IsOutOfMemory e ⊎ ReportsFirst (limits_of None) bytes e
Refuses _ bytes e = Unit {0}
