use Rattle.cbor_model.proofs.laws.canonical_is_acceptable.Goals as goal
use Rattle.cbor_model.proofs.Proved as proved

pub returns : goal.returns
returns c = proved.canonical_is_acceptable
