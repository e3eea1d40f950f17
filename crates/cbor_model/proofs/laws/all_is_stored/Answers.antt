use Rattle.cbor_model.proofs.laws.all_is_stored.Goals as goal
use Rattle.cbor_model.proofs.Proved as proved

pub returns : goal.returns
returns c = proved.all_is_stored
