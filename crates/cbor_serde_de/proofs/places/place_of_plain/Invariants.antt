use Rattle.serde.specs.Names.{NoneBelow}
use Rattle.cbor_serde_de.proofs.places.place_of_plain.Given as goal

abbrev pub invariant-loop-at : goal.invariant-loop-at
invariant-loop-at l = NoneBelow l.names l.key l.at
