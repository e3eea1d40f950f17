use Rattle.cbor_serde_ser.specs.Noted.{event_of}
use Rattle.cbor_serde_ser.proofs.Running.{known_more, moved}
use Rattle.cbor_serde_ser.proofs.logged.after.Goals as goal

pub returns-clause-follows : goal.returns-clause-follows
returns-clause-follows c o p old new h same took =
    moved o p old new c.args.log.now.events c.then.result.events (event_of c.args.note) c.then.ensures same took h

pub returns-clause-known : goal.returns-clause-known
returns-clause-known c sent known = known_more c.args.log.now.events c.then.result.events (event_of c.args.note) c.then.ensures sent known
