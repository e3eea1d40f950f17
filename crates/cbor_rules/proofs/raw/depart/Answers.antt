use Rattle.std.proofs.Common.{ap}
use Rattle.cbor_rules.specs.NextItem.{counted_from}
use Rattle.cbor_rules.proofs.raw.depart.Goals as goal

pub returns-in-Ok-Some-clause-shown : goal.returns-in-Ok-Some-clause-shown
returns-in-Ok-Some-clause-shown c = λ item more fits is.
    ap (counted_from c.args.start) (rw c.in-Ok-Some.field-0-is at c.in-Ok-Some.ensures.shown item more fits is)
