use Rattle.cbor_model.proofs.laws.last_pair_stays.Goals as goal
use Rattle.cbor_model.proofs.Proved as proved

pub returns : goal.returns
returns c = proved.last_pair_stays
