use Rattle.cbor_de.proofs.refusals.FirstRefusals.{first_is_fault}
use Rattle.cbor_de.proofs.laws.first_is_fault.Goals as goal

pub returns : goal.returns
returns c = first_is_fault c.first_refusal.ensures c.one_first_refusal.ensures c.none_allowed.ensures
