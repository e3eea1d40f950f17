-- What is answered where a value is made, and where memory ran out.
use Rattle.std.proofs.Common.{◌≡◌, sym, subst}
use Rattle.std.specs.Prelude.{Result, Ok, Err, IfErr}
use Rattle.cbor_model.specs.Document.{Doc, IsStorableDocument}
use Rattle.cbor_io.specs.declared.error.Error.{Error}
use Rattle.cbor_io.specs.Error.{IsOutOfMemory}
use Rattle.cbor_io.specs.declared.error.ErrorCode.{ErrorCode}
use Rattle.cbor_io.specs.declared.error.ErrorCode.TheVariants.{Message, OutOfMemory}
use Rattle.cbor_value.specs.declared.Value.{Value}
use Rattle.cbor_value.specs.View.{view}
use Rattle.cbor_ser.specs.Written.{IsNotWritten, IsRefusedBy}
use Rattle.cbor_convert.specs.Meaning.{Makes, value_of}

memory_code : (S : Type 0) (code : ErrorCode) → code ≡ OutOfMemory → IsRefusedBy code S
memory_code S code is = subst (λ (x : ErrorCode). IsRefusedBy x S) (sym is) tt

pub refused_memory : (S : Type 0) (e : Error) → IsOutOfMemory e → IsNotWritten S e
refused_memory S e h = (memory_code S e.code h.0, h.1)

-- what is storable is refused for lack of memory alone, and so as anything else
refused_code : (S T : Type 0) (code : ErrorCode) → S → IsRefusedBy code S → IsRefusedBy code T
refused_code S T (Message text) s h = absurd (h.1 s)
refused_code S T OutOfMemory s h = tt
refused_code S T _ s h = absurd h

pub refused_as : {A : Type 0} (r : Result A Error) (S T : Type 0) → S → IfErr r (IsNotWritten S) → IfErr r (IsNotWritten T)
refused_as (Ok x) S T s h = tt
refused_as (Err e) S T s h = (refused_code S T e.code s h.0, h.1)

pub is_made : {d : Doc} {v : Value} → view v ≡ value_of d → IsStorableDocument d → Makes d (Ok v)
is_made same stored = record { made = same; storable = stored; refused = tt }
