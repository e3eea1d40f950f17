use Rattle.cbor_rules.proofs.laws.canonical_written_is_accepted.Goals as goal
use Rattle.cbor_rules.proofs.Canonical as proved

pub returns : goal.returns
returns c = proved.written_is_accepted
