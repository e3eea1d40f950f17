use Rattle.cbor_rules.proofs.laws.ctap2_accepted_is_written.Goals as goal
use Rattle.cbor_rules.proofs.Ctap2 as proved

pub returns : goal.returns
returns c = proved.accepted_is_written
