use Rattle.cbor_model.proofs.laws.first_refusal.Goals as goal
use Rattle.cbor_model.proofs.Proved as proved

pub returns : goal.returns
returns c = proved.first_refusal
