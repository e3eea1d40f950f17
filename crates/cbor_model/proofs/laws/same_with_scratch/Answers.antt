use Rattle.cbor_model.proofs.laws.same_with_scratch.Goals as goal
use Rattle.cbor_model.proofs.Proved as proved

pub returns : goal.returns
returns c = proved.same_with_scratch
