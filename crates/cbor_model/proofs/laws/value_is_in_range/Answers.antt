use Rattle.cbor_model.proofs.laws.value_is_in_range.Goals as goal
use Rattle.cbor_model.proofs.Proved as proved

pub returns : goal.returns
returns c = proved.value_is_in_range
