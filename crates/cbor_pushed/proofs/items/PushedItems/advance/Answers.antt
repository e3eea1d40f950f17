use Rattle.std.proofs.Common.{arith}
use Rattle.cbor_model.specs.Acceptable.{max_depth}
use Rattle.cbor_pushed.proofs.items.PushedItems.advance.Goals as goal

pub invariant_of-self : goal.invariant_of-self
invariant_of-self c =
    (omega (arith, c.self.invariant.0, c.min.ensures), c.reset.ensures max_depth _)
