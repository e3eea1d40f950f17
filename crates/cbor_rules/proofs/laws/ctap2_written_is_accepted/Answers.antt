use Rattle.cbor_rules.proofs.laws.ctap2_written_is_accepted.Goals as goal
use Rattle.cbor_rules.proofs.Ctap2 as proved

pub returns : goal.returns
returns c = record { kept = proved.written_is_accepted }
