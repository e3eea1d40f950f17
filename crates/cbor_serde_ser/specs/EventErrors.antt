-- The error of what was refused.
use Rattle.std.specs.Prelude.{ℕ}
use Rattle.cbor_io.specs.declared.error.ErrorCode.{ErrorCode}
use Rattle.cbor_io.specs.declared.error.ErrorCode.TheVariants as error
use Rattle.cbor_serde_ser.specs.declared.event_error.EventError.{EventError}
use Rattle.cbor_serde_ser.specs.declared.event_error.EventError.TheVariants.{OutOfMemory, TooDeep, Message}

abbrev pub code_of_event_error : EventError → ErrorCode
code_of_event_error OutOfMemory = error.OutOfMemory
code_of_event_error (TooDeep n) = error.RecursionLimitExceeded
code_of_event_error (Message text) = error.Message text.value

-- where it is refused in what was written
abbrev pub offset_of_event_error : EventError → ℕ
offset_of_event_error (TooDeep n) = n
offset_of_event_error _ = 0
