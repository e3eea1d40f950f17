use Rattle.cbor_de.proofs.taken.ContentTaken as contents
use Rattle.cbor_de.proofs.laws.variant_unit_taken.Goals as goal

pub returns : goal.returns
returns c = contents.unit_taken
