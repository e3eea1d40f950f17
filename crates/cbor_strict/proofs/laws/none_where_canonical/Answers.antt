use Rattle.cbor_strict.proofs.laws.none_where_canonical.Goals as goal
use Rattle.cbor_strict.proofs.Strict as strict

pub returns : goal.returns
returns c = strict.none_where_canonical
