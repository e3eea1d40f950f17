use Rattle.cbor_model.proofs.laws.normalised_once.Goals as goal
use Rattle.cbor_model.proofs.Proved as proved

pub returns : goal.returns
returns c = proved.normalised_once
