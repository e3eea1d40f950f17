use Rattle.cbor_decode_as.specs.Takes.{formats_of}
use Rattle.cbor_de.proofs.refusals.OwnFaults.{item_fault}
use Rattle.cbor_de.proofs.map.MapAccess.next_value.Goals as goal

pub returns-in-Err-clause-own_fault : goal.returns-in-Err-clause-own_fault
returns-in-Err-clause-own_fault g c =
    let old = c.args.self.now.de.now.decoder in
    let value = g.V.Readable in
    item_fault g.R.Source.refusals (g.R.Source.source old.source) c.in-Err.e old.levels (formats_of old.formats) value.passes_over value.total value.reports_faults c.in-Err.ensures.fault c.in-Err.ensures.own_fault
