use Rattle.std.proofs.Common.{subst}
use Rattle.cbor_serde_ser.specs.Follows.{Follows}
use Rattle.cbor_serde_ser.specs.State.{state}
use Rattle.cbor_serde_ser.proofs.Running.{finishes}
use Rattle.cbor_serde_ser.proofs.DocumentItem.{log_item}
use Rattle.cbor_serde_ser.proofs.logged.Logged.finish.Goals as goal

pub returns-in-Ok-clause-events : goal.returns-in-Ok-clause-events
returns-in-Ok-clause-events c = finishes _ _ _ c.in-Ok.bytes.items (c.args.self.known c.in_default.ensures) (subst (λ q. Follows q c.args.self.log.events (state c.args.self.writer)) c.in-Ok.ensures.options c.args.self.follows) c.in-Ok.ensures.whole

pub returns-in-Ok-clause-item : goal.returns-in-Ok-clause-item
returns-in-Ok-clause-item c = log_item c.args.options c.args.self.log.events c.in-Ok.bytes.items (returns-in-Ok-clause-events c)
