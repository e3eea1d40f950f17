-- The state of the writer behind `to_vec`; for private clauses.
use Rattle.std.specs.Prelude.{◌≡◌, ◌⊎◌, Option, Some, None, reverse}
use Rattle.serde.specs.Event.{Event}
use Rattle.cbor_serde_ser.specs.Document.{State, step}
use Rattle.cbor_serde_ser.specs.declared.reason.Reason.{Reason}
use Rattle.cbor_serde_ser.specs.declared.reason.Reason.TheVariants.{OutOfMemory}
use Rattle.cbor_serde_ser.specs.declared.writer.Writer.{Writer}

abbrev pub state : Writer → State
state w = record { bytes = w.out; level = w.level; outer = reverse w.outer.items; flattens = w.flattens; begun = w.begun }

-- the event was written, which may come there
abbrev pub Writes : Writer → Event → Writer → Type 0
Writes old e new = step old.options (state old) e ≡ Some (state new)

-- It is refused for want of memory, or where there is no result.
abbrev pub MayNot : {A : Type 0} → Option A → Reason → Type 0
MayNot result why = (why ≡ OutOfMemory) ⊎ (result ≡ None)

-- for want of memory, or where the event may not come
pub record Refuses (old : Writer) (e : Event) (why : Reason) : Type 0 where
  pub because : MayNot (step old.options (state old) e) why
