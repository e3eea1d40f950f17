use Rattle.cbor_decode_as.proofs.enums.VariantFaults.{nothing_fault}
use Rattle.cbor_decode_as.proofs.variant.enum_shape.Goals as goal

pub returns-in-Ok-None-clause-fault : goal.returns-in-Ok-None-clause-fault
returns-in-Ok-None-clause-fault g c =
    let old = c.args.decoder.now in
    let h = c.in-Ok-None in
    let s = g.R.Source.source old.source in
    let t = g.R.Source.source c.peek.new.self in
    nothing_fault g.R.Source.refusals old.levels s c.error.result h.field-0 t.offset c.refuse-refused.new.self.refusal c.refuse-refused.result h.field-0-is h.ensures.front h.ensures.stays.count c.refuse-refused.ensures.refused c.refuse-refused.ensures.kept c.error.ensures.reports
