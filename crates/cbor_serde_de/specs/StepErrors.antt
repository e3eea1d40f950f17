-- The error of what was refused.
use Rattle.std.specs.Prelude.{◌≡◌, ⊤}
use Rattle.cbor_io.specs.Error.{code_of, offset_of}
use Rattle.cbor_io.specs.declared.error.Error.{Error}
use Rattle.cbor_io.specs.declared.error.ErrorCode.TheVariants as error
use Rattle.cbor_serde_de.specs.declared.step_error.StepError.{StepError}
use Rattle.cbor_serde_de.specs.declared.step_error.StepError.TheVariants as refusal

-- it is the refusal with this error, or there was no memory for that
abbrev pub Carries : Error → StepError → Type 0
Carries e refusal.OutOfMemory = ⊤
Carries e (refusal.Error kept) = kept.value ≡ e

abbrev pub IsOutOfMemory : StepError → Type 0
IsOutOfMemory r = r ≡ refusal.OutOfMemory

abbrev pub IsErrorOf : StepError → Error → Type 0
IsErrorOf refusal.OutOfMemory e = (code_of e ≡ error.OutOfMemory) × (offset_of e ≡ 0)
IsErrorOf (refusal.Error kept) e = e ≡ kept.value
