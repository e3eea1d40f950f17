use Rattle.cbor_model.proofs.laws.scratch_need.Goals as goal
use Rattle.cbor_model.proofs.Proved as proved

pub returns : goal.returns
returns c = proved.scratch_need
