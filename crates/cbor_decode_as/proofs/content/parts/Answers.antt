use Rattle.std.proofs.Common.{Some, codes}
use Rattle.cbor_decode.proofs.facts.Steps.{took_none}
use Rattle.cbor_decode_as.specs.Takes.{formats_of}
use Rattle.cbor_decode_as.proofs.enums.VariantParts.{parts_here, parts_answer, untold}
use Rattle.cbor_decode_as.proofs.enums.VariantForms.{parts_begun, parts_in_map, alone_has_none}
use Rattle.cbor_io.specs.Error.{code_of}
use Rattle.cbor_decode_as.proofs.enums.ContentFaults.{any_text}
use Rattle.cbor_decode_as.proofs.content.parts.Goals as goal

pub returns-in-Array-clause-read : goal.returns-in-Array-clause-read
returns-in-Array-clause-read g c =
    let old = c.args.decoder.now in
    rw c.in-Array.is (parts_here (formats_of old.formats) old.levels c.in-Array.remaining (g.R.Source.source old.source))

pub returns-in-Map-clause-read : goal.returns-in-Map-clause-read
returns-in-Map-clause-read g c =
    let old = c.args.decoder.now in
    let new = c.head.new.decoder in
    rw c.in-Map.is (parts_answer (formats_of old.formats) old.levels new.levels (g.R.Source.source old.source) (g.R.Source.source new.source) g.R.Source.refusals c.head.result c.head.ensures.read)

pub returns-in-Map-clause-alone : goal.returns-in-Map-clause-alone
returns-in-Map-clause-alone g c = rw c.in-Map.is (untold c.head.result)

-- ---- whatever follows

pub returns-in-Array-clause-opened : goal.returns-in-Array-clause-opened
returns-in-Array-clause-opened g c =
    let old = c.args.decoder.now in
    rw c.in-Array.is (parts_begun old.levels c.in-Array.remaining (g.R.Source.source old.source))

pub returns-in-Map-clause-opened : goal.returns-in-Map-clause-opened
returns-in-Map-clause-opened g c =
    let old = c.args.decoder.now in
    let new = c.head.new.decoder in
    rw c.in-Map.is (parts_in_map g.R.Source.refusals old.levels new.levels (g.R.Source.source old.source) (g.R.Source.source new.source) c.head.result c.head.ensures.opened)

pub returns-in-Alone-clause-opened : goal.returns-in-Alone-clause-opened
returns-in-Alone-clause-opened g c =
    let old = c.args.decoder.now in
    let s = g.R.Source.source old.source in
    rw c.in-Alone.is (alone_has_none g.R.Source.refusals old.levels s s old.levels c.message.result (took_none s))

-- ---- the fault, and memory

pub returns-in-Map-clause-fault : goal.returns-in-Map-clause-fault
returns-in-Map-clause-fault g c = rw c.in-Map.is c.head.ensures.fault

pub returns-in-Map-clause-memory : goal.returns-in-Map-clause-memory
returns-in-Map-clause-memory g c = rw c.in-Map.is c.head.ensures.memory

pub returns-in-Alone-clause-fault : goal.returns-in-Alone-clause-fault
returns-in-Alone-clause-fault g c = rw c.in-Alone.is (any_text (Some (codes "invalid type: unit variant, expected tuple variant")) (code_of c.message.result) c.message.ensures.code, c.message.ensures.offset)

pub returns-in-Alone-clause-memory : goal.returns-in-Alone-clause-memory
returns-in-Alone-clause-memory g c = rw c.in-Alone.is tt
