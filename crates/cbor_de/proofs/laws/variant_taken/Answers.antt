use Rattle.cbor_de.proofs.taken.VariantTaken as variants
use Rattle.cbor_de.proofs.laws.variant_taken.Goals as goal

pub returns : goal.returns
returns c = variants.variant_taken
