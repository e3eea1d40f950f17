use Rattle.cbor_model.proofs.laws.key_rule.Goals as goal
use Rattle.cbor_model.proofs.Proved as proved

pub returns : goal.returns
returns c = proved.key_rule
