use Rattle.cbor_pushed.specs.Scanned.{Follows, to_do}
use Rattle.cbor_pushed.proofs.scan.Scan.find.Given as goal

abbrev pub invariant-steps : goal.invariant-steps
invariant-steps l = Follows l.levels l.self l.front

abbrev pub decreases-steps : goal.decreases-steps
decreases-steps l = to_do l.front l.self
