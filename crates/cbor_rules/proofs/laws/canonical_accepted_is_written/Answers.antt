use Rattle.cbor_rules.proofs.laws.canonical_accepted_is_written.Goals as goal
use Rattle.cbor_rules.proofs.Canonical as proved

pub returns : goal.returns
returns c = proved.accepted_is_written
