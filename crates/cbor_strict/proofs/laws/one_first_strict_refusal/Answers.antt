use Rattle.cbor_strict.proofs.laws.one_first_strict_refusal.Goals as goal
use Rattle.cbor_strict.proofs.FirstRefusals as refusals

pub returns : goal.returns
returns c = refusals.one_first_strict
