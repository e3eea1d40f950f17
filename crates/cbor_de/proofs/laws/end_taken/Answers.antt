use Rattle.cbor_de.proofs.taken.PartTaken as parts
use Rattle.cbor_de.proofs.laws.end_taken.Goals as goal

pub returns-clause-arrays : goal.returns-clause-arrays
returns-clause-arrays c = parts.array_end_taken

pub returns-clause-maps : goal.returns-clause-maps
returns-clause-maps c = parts.map_end_taken
