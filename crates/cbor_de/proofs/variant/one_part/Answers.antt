use Rattle.std.proofs.Common.{Some}
use Rattle.cbor_decode_as.specs.Takes.{context, formats_of}
use Rattle.cbor_decode_as.proofs.facts.Enums.{one_answer, untold}
use Rattle.cbor_de.proofs.refusals.Forms.{part_err}
use Rattle.cbor_io.specs.Error.{code_of}
use Rattle.cbor_de.proofs.parts.EnumFaults.{err_both, text_message}
use Rattle.cbor_de.proofs.variant.one_part.Goals as goal

pub returns-in-Array-clause-read : goal.returns-in-Array-clause-read
returns-in-Array-clause-read g c = rw c.in-Array.is c.only_item.ensures.read

pub returns-in-Map-clause-read : goal.returns-in-Map-clause-read
returns-in-Map-clause-read g c =
    let old = c.args.de.now in
    rw c.in-Map.is (one_answer (g.T.Readable.reads (context old.decoder.formats g.R.Source.lends)) (formats_of old.decoder.formats) old.decoder.levels (g.R.Source.source old.decoder.source) (g.R.Source.source c.deserialize.new.de.decoder.source) g.R.Source.refusals c.deserialize.result c.deserialize.ensures.read)

pub returns-in-Array-clause-alone : goal.returns-in-Array-clause-alone
returns-in-Array-clause-alone g c = rw c.in-Array.is (untold c.only_item.result)

pub returns-in-Map-clause-alone : goal.returns-in-Map-clause-alone
returns-in-Map-clause-alone g c = rw c.in-Map.is (untold c.deserialize.result)

pub returns-in-Map-clause-form : goal.returns-in-Map-clause-form
returns-in-Map-clause-form g c = part_err g.T.Readable.wrong_forms _ c.args.form _ c.deserialize.result c.deserialize.ensures.form

-- ---- the fault, and memory

pub returns-in-Array-clause-fault : goal.returns-in-Array-clause-fault
returns-in-Array-clause-fault g c = rw c.in-Array.is c.only_item.ensures.fault

pub returns-in-Array-clause-memory : goal.returns-in-Array-clause-memory
returns-in-Array-clause-memory g c = rw c.in-Array.is c.only_item.ensures.memory

pub returns-in-Map-clause-fault : goal.returns-in-Map-clause-fault
returns-in-Map-clause-fault g c = rw c.in-Map.is (err_both c.deserialize.result _ _ c.deserialize.ensures.fault c.deserialize.ensures.own_fault)

pub returns-in-Map-clause-memory : goal.returns-in-Map-clause-memory
returns-in-Map-clause-memory g c = rw c.in-Map.is c.deserialize.ensures.memory

pub returns-in-Alone-clause-fault : goal.returns-in-Alone-clause-fault
returns-in-Alone-clause-fault g c = rw c.in-Alone.is (text_message (Some c.args.alone.now) (code_of c.message.result) c.message.ensures.code, c.message.ensures.offset)

pub returns-in-Alone-clause-memory : goal.returns-in-Alone-clause-memory
returns-in-Alone-clause-memory g c = rw c.in-Alone.is tt
