-- Of a document whose numbers are all stored, a refusal is for lack of memory.
use Rattle.std.proofs.Common.{◌≡◌, ℕ, Vec, refl}
use Rattle.std.specs.Prelude.{Result, IfErr}
use Rattle.std.specs.declared.alloc.Global.{Global}
use Rattle.std.proofs.lemmas.Result.{IfErr-weaker}
use Rattle.serde_cbor.specs.declared.error.ErrorCode.{ErrorCode}
use Rattle.serde_cbor.specs.declared.error.ErrorCode.TheVariants.{Message, OutOfMemory}
use Rattle.serde_cbor.specs.declared.error.Error.{Error}
use Rattle.serde_cbor.specs.Error.{code_of, IsOutOfMemory}
use Rattle.serde_cbor.specs.Written.{IsRefusedBy, IsNotWritten}

memory_code : (code : ErrorCode) (storable : Type 0) → storable → IsRefusedBy code storable → code ≡ OutOfMemory
memory_code OutOfMemory storable fits h = refl
memory_code (Message text) storable fits h = absurd (h.1 fits)
memory_code _ storable fits h = absurd h

pub memory_alone : (storable : Type 0) (r : Result (Vec ℕ Global) Error) → storable → IfErr r (IsNotWritten storable) → IfErr r IsOutOfMemory
memory_alone storable r fits refused =
    IfErr-weaker r (IsNotWritten storable) IsOutOfMemory (λ e h. (memory_code (code_of e) storable fits h.0, h.1)) refused
