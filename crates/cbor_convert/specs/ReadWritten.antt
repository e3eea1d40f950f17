-- What is answered by a call that writes, and reads what was written as a type.
use Rattle.std.specs.Prelude.{◌⊎◌, Bool, List, ℕ, None, Result, IfErr, IfOk, OnOk}
use Rattle.cbor_model.specs.Allowed.{limits_of}
use Rattle.cbor_model.specs.Formats.{all_formats}
use Rattle.cbor_model.specs.Raw.{Raw}
use Rattle.cbor_model.specs.Readable.{SpellsAs}
use Rattle.cbor_io.specs.declared.error.Error.{Error}
use Rattle.cbor_io.specs.Error.{IsOutOfMemory, code_of}
use Rattle.cbor_ser.specs.Written.{SaysUnstorable}
use Rattle.cbor_decode.specs.FirstRefusal.{ReportsFirst}
use Rattle.cbor_decode_as.specs.Takes.{WhereTotal}
use Rattle.cbor_de.specs.Calls.{reports_any}
use Rattle.cbor_de.specs.Forms.{FormOnlyIf, WrongForms, may_report}
use Rattle.cbor_de.specs.Whole.{RefusesUnread, ReportsOwn}

-- What can be stored is written as these bytes, and they are read.
pub record ReadsWritten {A : Type 0} (passes_over total reports_faults : Bool) (wrong_forms : WrongForms)
    (reads : Raw → A → Type 0) (Storable : Type 0) (bytes : List ℕ) (result : Result A Error) : Type 0 where
  pub storable : OnOk result Storable
  -- The bytes encode an acceptable item, and it is read so.
  pub found : IfOk result (SpellsAs all_formats reads bytes)
  -- Each such item is read, unless memory runs out.
  pub accepted : Storable → (x : A) → SpellsAs all_formats reads bytes x → IfErr result IsOutOfMemory
  -- What can't be stored is refused by that message, unless memory runs out.
  pub refused : (Storable → ⊥) → IfErr result SaysUnstorable
  -- What can be is refused, by a type that reads every item, for lack of memory, or by the first refusal of
  -- the bytes, as of an item that is nested too deep;
  pub first : Storable → IfErr result (λ e. WhereTotal total
      (IsOutOfMemory e ⊎ ReportsFirst (limits_of None) bytes e))
  -- by one that passes over what it doesn't read, for lack of memory, by a message, or by that refusal;
  pub fault : Storable → IfErr result (λ e. WhereTotal passes_over
      (IsOutOfMemory e ⊎ RefusesUnread reads None bytes e))
  -- and by one that reports the faults of the bytes, by that refusal where its code is that of a fault: never
  -- by an I/O error.
  pub own_fault : Storable → IfErr result
      (ReportsOwn (reports_any passes_over total reports_faults) IsOutOfMemory None bytes)
  -- A wrong form is reported only by a type that may refuse an item for one.
  pub form : IfErr result (λ e. FormOnlyIf (may_report wrong_forms) (code_of e))
