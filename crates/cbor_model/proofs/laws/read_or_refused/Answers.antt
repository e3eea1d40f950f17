use Rattle.cbor_model.proofs.laws.read_or_refused.Goals as goal
use Rattle.cbor_model.proofs.Proved as proved

pub returns : goal.returns
returns c = proved.read_or_refused
