use Rattle.cbor_serde_de.proofs.Taking.{fails_then, keeps_then}
use Rattle.cbor_serde_de.proofs.kept.Kept.take_outlined.Goals as goal

pub returns-in-Ok-None : goal.returns-in-Ok-None
returns-in-Ok-None g c =
    keeps_then g.R.Read.remaining c.args.self.now c.heads.self c.take_head.new.self c.heads.invariant c.in-Ok-None.ensures

pub returns-in-Err-take_head : goal.returns-in-Err-take_head
returns-in-Err-take_head g c =
    fails_then g.R.Read.remaining c.args.self.now c.heads.self c.take_head.new.self c.in-Err-take_head.error c.heads.invariant c.in-Err-take_head.ensures
