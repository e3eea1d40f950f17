use Rattle.std.proofs.Common.{arith}
use Rattle.cbor_model.specs.Acceptable.{max_depth}
use Rattle.cbor_pushed.proofs.items.PushedItems.new.Goals as goal

pub invariant_of-result : goal.invariant_of-result
invariant_of-result c = (omega arith, c.new-2.ensures max_depth _)
