use Rattle.std.proofs.Common.{arith}
use Rattle.cbor_pushed.proofs.FoundByDefinitions.{refused, unfinished, whole}
use Rattle.cbor_pushed.proofs.scan.Scan.find.Goals as goal

pub returns-in-Ok-Whole-clause-found : goal.returns-in-Ok-Whole-clause-found
returns-in-Ok-Whole-clause-found c =
    whole c.args.levels c.args.front.now (λ i. omega (arith, c.type_inv.front i)) (omega arith) c.step.new.self.at (rw c.in-Ok-Whole.field-0-is at c.in-Ok-Whole.ensures.steps)

pub returns-in-Ok-Unfinished-clause-found : goal.returns-in-Ok-Unfinished-clause-found
returns-in-Ok-Unfinished-clause-found c =
    unfinished c.args.levels c.args.front.now (λ i. omega (arith, c.type_inv.front i)) (omega arith) (rw c.in-Ok-Unfinished.field-0-is at c.in-Ok-Unfinished.ensures.steps)

pub returns-in-Err-clause-found : goal.returns-in-Err-clause-found
returns-in-Err-clause-found c =
    refused c.args.levels c.args.front.now (λ i. omega (arith, c.type_inv.front i)) (omega arith) c.in-Err.error c.in-Err.ensures.steps
