use Rattle.cbor_serde_de.proofs.Taking.{after_more}
use Rattle.cbor_serde_de.proofs.kept.Kept.take_behind.Goals as goal

pub returns-in-Ok-true : goal.returns-in-Ok-true
returns-in-Ok-true g c =
    after_more g.R.Read.remaining c.args.self.now c.fill.new.self c.take_string.new.self c.take_string.result c.in-Ok-true.ensures.more c.take_string.ensures
