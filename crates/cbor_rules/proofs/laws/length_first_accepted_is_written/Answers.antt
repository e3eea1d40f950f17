use Rattle.cbor_rules.proofs.laws.length_first_accepted_is_written.Goals as goal
use Rattle.cbor_rules.proofs.LengthFirst as proved

pub returns : goal.returns
returns c = proved.accepted_is_written
