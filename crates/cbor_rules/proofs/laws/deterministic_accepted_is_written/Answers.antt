use Rattle.cbor_rules.proofs.laws.deterministic_accepted_is_written.Goals as goal
use Rattle.cbor_rules.proofs.Deterministic as proved

pub returns : goal.returns
returns c = proved.accepted_is_written
