use Rattle.cbor_rules.proofs.laws.dcbor_accepted_is_written.Goals as goal
use Rattle.cbor_rules.proofs.Dcbor as proved

pub returns : goal.returns
returns c = proved.accepted_is_written
