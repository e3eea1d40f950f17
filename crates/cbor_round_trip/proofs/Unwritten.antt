-- Why what is storable isn't written: for lack of memory alone.
use Rattle.std.proofs.Common.{◌≡◌, ℕ, List, Result, Ok, Err, refl, subst, sym}
use Rattle.std.specs.Prelude.{IfErr}
use Rattle.cbor_model.specs.Canonical.{IsStorable}
use Rattle.cbor_model.specs.Document.{IsStorableDocument, document_of}
use Rattle.cbor_model.specs.Laws.{SpellsValue}
use Rattle.cbor_model.specs.Plain.{Val}
use Rattle.cbor_model.proofs.facts.Documents.{storable_document}
use Rattle.cbor_model.proofs.facts.Laws.{value_is_storable}
use Rattle.cbor_io.specs.Error.{IsOutOfMemory, code_of}
use Rattle.cbor_io.specs.declared.error.Error.{Error}
use Rattle.cbor_io.specs.declared.error.ErrorCode.{ErrorCode}
use Rattle.cbor_io.specs.declared.error.ErrorCode.TheVariants.{Message, OutOfMemory}
use Rattle.cbor_ser.specs.Written.{IsNotWritten, IsRefusedBy}

memory_code : {S : Type 0} (code : ErrorCode) → S → IsRefusedBy code S → code ≡ OutOfMemory
memory_code OutOfMemory stored h = refl
memory_code (Message text) stored h = absurd (h.1 stored)
memory_code _ stored h = absurd h

pub unwritten_for_memory : {S : Type 0} (e : Error) → S → IsNotWritten S e → IsOutOfMemory e
unwritten_for_memory e stored h = (memory_code (code_of e) stored h.0, h.1)

-- the value of an item that bytes encode
pub spelled_unwritten_for_memory : {bytes : List ℕ} {v : Val} (e : Error) → SpellsValue bytes v → IsNotWritten (IsStorableDocument (document_of v)) e → IsOutOfMemory e
spelled_unwritten_for_memory {v = v} e spelt h =
    let stored = subst IsStorable (sym spelt.valued) (value_is_storable spelt.item spelt.acceptable.fits) in
    unwritten_for_memory e (storable_document v stored) h

-- what a call answers
pub refused_for_memory : {A S : Type 0} (r : Result A Error) → S → IfErr r (IsNotWritten S) → IfErr r IsOutOfMemory
refused_for_memory (Ok x) stored h = tt
refused_for_memory (Err e) stored h = unwritten_for_memory e stored h
