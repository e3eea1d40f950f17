use Rattle.cbor_decode_as.proofs.facts.Places.{made_alone}
use Rattle.cbor_de.proofs.refusals.Forms.{key_reported}
use Rattle.cbor_decode_as.specs.Takes.{formats_of}
use Rattle.cbor_de.proofs.field.next_key.Goals as goal

pub returns-in-Err-clause-read : goal.returns-in-Err-clause-read
returns-in-Err-clause-read g c = rw c.unnamed.ensures.source (c.in-Err.ensures.read c.unnamed.result c.unnamed.ensures.made)

pub returns-in-Err-clause-form : goal.returns-in-Err-clause-form
returns-in-Err-clause-form g c =
    let old = c.args.de.now.decoder in
    let e = c.unnamed.result in
    key_reported (formats_of old.formats) c.args.remaining.now (g.R.Source.source old.source) e (made_alone c.next_field.new.self.decoder.refusal c.in-Err.why e c.unnamed.ensures.made) (c.in-Err.ensures.cases e c.unnamed.ensures.made)

pub returns-in-Err-clause-memory : goal.returns-in-Err-clause-memory
returns-in-Err-clause-memory g c = c.in-Err.ensures.memory c.unnamed.result c.unnamed.ensures.made

pub returns-in-Err-clause-fault : goal.returns-in-Err-clause-fault
returns-in-Err-clause-fault g c = c.in-Err.ensures.fault c.unnamed.result c.unnamed.ensures.made
