use Rattle.cbor_serde_de.specs.Readers.{KeepsMore}
use Rattle.cbor_serde_de.proofs.kept.Kept.next_item.Given as goal

abbrev pub invariant-pieces : goal.invariant-pieces
invariant-pieces g l = KeepsMore g.R.Read.remaining l.initial.self l.self
