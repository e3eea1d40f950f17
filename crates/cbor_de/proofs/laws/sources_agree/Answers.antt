use Rattle.cbor_de.proofs.laws.sources_agree.Goals as goal
use Rattle.cbor_de.proofs.refusals.Alike as alike

pub returns : goal.returns
returns c = alike.sources_agree
