use Rattle.cbor_model.proofs.laws.in_memory_is_in_range.Goals as goal
use Rattle.cbor_model.proofs.Proved as proved

pub returns : goal.returns
returns c = proved.in_memory_is_in_range
