use Rattle.cbor_model.proofs.laws.parts_bytes.Goals as goal
use Rattle.cbor_model.proofs.Proved as proved

pub returns : goal.returns
returns c = proved.parts_bytes
