use Rattle.std.proofs.Common.{arith}
use Rattle.cbor_serde_de.proofs.Taking.{fails_then, none_took}
use Rattle.cbor_serde_de.proofs.kept.Kept.take_missing.Goals as goal

pub returns-in-Ok-eq0 : goal.returns-in-Ok-eq0
returns-in-Ok-eq0 g c =
    none_took g.R.Read.remaining c.args.self.now c.take.new.self c.in-Ok-eq0.field-0 c.in-Ok-eq0.ensures (omega arith)

pub returns-in-Err-take_outlined : goal.returns-in-Err-take_outlined
returns-in-Err-take_outlined g c =
    fails_then g.R.Read.remaining c.args.self.now c.take.new.self c.take_outlined.new.self c.in-Err-take_outlined.error c.in-Ok.ensures.more c.in-Err-take_outlined.ensures
