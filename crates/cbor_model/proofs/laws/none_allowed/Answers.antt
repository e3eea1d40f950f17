use Rattle.cbor_model.proofs.laws.none_allowed.Goals as goal
use Rattle.cbor_model.proofs.Proved as proved

pub returns : goal.returns
returns c = proved.none_allowed
