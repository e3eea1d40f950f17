use Rattle.cbor_rules.proofs.laws.deterministic_written_is_accepted.Goals as goal
use Rattle.cbor_rules.proofs.Deterministic as proved

pub returns : goal.returns
returns c = record { kept = proved.written_is_accepted (proved.apart c.same_number_same_float.ensures) }
