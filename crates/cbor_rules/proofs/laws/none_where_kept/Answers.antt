use Rattle.cbor_rules.proofs.laws.none_where_kept.Goals as goal
use Rattle.cbor_rules.proofs.KeptRules as kept

pub returns : goal.returns
returns c = kept.none_where_kept
