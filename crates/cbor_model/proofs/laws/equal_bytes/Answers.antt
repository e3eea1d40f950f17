use Rattle.cbor_model.proofs.laws.equal_bytes.Goals as goal
use Rattle.cbor_model.proofs.Proved as proved

pub returns : goal.returns
returns c = proved.equal_bytes
