use Rattle.cbor_serde_de.proofs.Wholes as wholes
use Rattle.cbor_serde_de.proofs.laws.whole_item.Goals as goal

pub returns : goal.returns
returns c = wholes.whole_item
