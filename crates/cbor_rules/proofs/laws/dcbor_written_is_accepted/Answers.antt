use Rattle.cbor_rules.proofs.laws.dcbor_written_is_accepted.Goals as goal
use Rattle.cbor_rules.proofs.Dcbor as proved
use Rattle.cbor_rules.proofs.Deterministic.{apart}

pub returns : goal.returns
returns c = proved.written_is_accepted (apart c.same_number_same_float.ensures)
