use Rattle.cbor_decode_as.proofs.facts.Places.{made_alone}
use Rattle.cbor_de.proofs.structure.StructAccess.next_field.Goals as goal

pub returns-in-Err-clause-read : goal.returns-in-Err-clause-read
returns-in-Err-clause-read g c = rw c.unnamed.ensures.source (c.in-Err.ensures.read c.unnamed.result c.unnamed.ensures.made)

pub returns-in-Err-clause-bad_key : goal.returns-in-Err-clause-bad_key
returns-in-Err-clause-bad_key g c = c.in-Err.ensures.bad_key c.unnamed.result c.unnamed.ensures.made

pub returns-in-Err-clause-code : goal.returns-in-Err-clause-code
returns-in-Err-clause-code g c = made_alone c.next_field.new.self.decoder.refusal c.in-Err.why c.unnamed.result c.unnamed.ensures.made

pub returns-in-Err-clause-memory : goal.returns-in-Err-clause-memory
returns-in-Err-clause-memory g c = c.in-Err.ensures.memory c.unnamed.result c.unnamed.ensures.made

pub returns-in-Err-clause-fault : goal.returns-in-Err-clause-fault
returns-in-Err-clause-fault g c = c.in-Err.ensures.fault c.unnamed.result c.unnamed.ensures.made
