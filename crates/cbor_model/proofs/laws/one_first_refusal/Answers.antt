use Rattle.cbor_model.proofs.laws.one_first_refusal.Goals as goal
use Rattle.cbor_model.proofs.Proved as proved

pub returns : goal.returns
returns c = proved.one_first_refusal
