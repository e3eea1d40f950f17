use Rattle.cbor_strict.proofs.laws.keys_compare_by_bytes.Goals as goal
use Rattle.cbor_strict.proofs.Strict as strict

pub returns : goal.returns
returns c = strict.keys_compare_by_bytes
