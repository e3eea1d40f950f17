use Rattle.cbor_serde_de.proofs.Taking.{fails_then}
use Rattle.cbor_serde_de.proofs.kept.Kept.fill.Goals as goal

pub returns-in-Err : goal.returns-in-Err
returns-in-Err g c =
    fails_then g.R.Read.remaining c.args.self.now c.pieces.self c.take.new.self c.in-Err.error c.pieces.invariant c.in-Err.ensures
