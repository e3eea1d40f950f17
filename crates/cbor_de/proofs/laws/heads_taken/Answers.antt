use Rattle.cbor_decode.specs.declared.head.Head.TheVariants.{Array, Map}
use Rattle.cbor_de.proofs.taken.HeadsTaken.{arrays, maps, heads_taken}
use Rattle.cbor_de.proofs.laws.heads_taken.Goals as goal

pub returns-clause-arrays : goal.returns-clause-arrays
returns-clause-arrays c = heads_taken Array 4 arrays

pub returns-clause-maps : goal.returns-clause-maps
returns-clause-maps c = heads_taken Map 5 maps
