use Rattle.cbor_rules.proofs.laws.first_is_least.Goals as goal
use Rattle.cbor_rules.proofs.KeptRules as kept

pub returns : goal.returns
returns c = kept.first_is_least
