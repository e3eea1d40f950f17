use Rattle.cbor_serde_de.proofs.Taking.{only_then}
use Rattle.cbor_serde_de.proofs.kept.Kept.only_item.Goals as goal

pub returns-in-Ok : goal.returns-in-Ok
returns-in-Ok g c =
    only_then g.R.Read.remaining c.args.levels c.args.self.now c.next_item.new.self c.end_behind.new.self c.in-Ok.ensures.more c.end_behind.result c.end_behind.ensures
