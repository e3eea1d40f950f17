use Rattle.cbor_serde_de.specs.Readers.{KeepsMore}
use Rattle.cbor_serde_de.proofs.kept.Kept.take_outlined.Given as goal

abbrev pub invariant-heads : goal.invariant-heads
invariant-heads g l = KeepsMore g.R.Read.remaining l.initial.self l.self
