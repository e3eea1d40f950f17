use Rattle.cbor_model.proofs.laws.one_flat.Goals as goal
use Rattle.cbor_model.proofs.Proved as proved

pub returns : goal.returns
returns c = proved.one_flat
