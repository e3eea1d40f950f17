use Rattle.std.proofs.Common.{◌-◌, length}
use Rattle.cbor_serde_de.specs.Readers.{KeepsMore}
use Rattle.cbor_serde_de.proofs.kept.Kept.fill.Given as goal

abbrev pub invariant-pieces : goal.invariant-pieces
invariant-pieces g l = KeepsMore g.R.Read.remaining l.initial.self l.self

abbrev pub decreases-pieces : goal.decreases-pieces
decreases-pieces g l = l.end - length l.self.bytes.items
