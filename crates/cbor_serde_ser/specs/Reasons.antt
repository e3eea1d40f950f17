-- The refusal that a step's reason becomes; for private clauses.
use Rattle.std.specs.Prelude.{◌≡◌, ⊤, ℕ}
use Rattle.cbor_serde_ser.specs.declared.reason.Reason.{Reason}
use Rattle.cbor_serde_ser.specs.declared.reason.Reason.TheVariants as reason
use Rattle.cbor_serde_ser.specs.declared.event_error.EventError.{EventError}
use Rattle.cbor_serde_ser.specs.declared.event_error.EventError.TheVariants.{OutOfMemory, TooDeep, Message}

-- a message, or there was no memory for it
abbrev pub IsMessage : EventError → Type 0
IsMessage (TooDeep n) = ⊥
IsMessage _ = ⊤

-- After so many bytes: too deep with their number, and else a message where there is memory for it.
abbrev pub IsEventErrorFor : Reason → ℕ → EventError → Type 0
IsEventErrorFor why offset OutOfMemory = why ≡ reason.TooDeep → ⊥
IsEventErrorFor why offset (TooDeep n) = (why ≡ reason.TooDeep) × (n ≡ offset)
IsEventErrorFor why offset (Message text) = (why ≡ reason.OutOfMemory → ⊥) × (why ≡ reason.TooDeep → ⊥)
