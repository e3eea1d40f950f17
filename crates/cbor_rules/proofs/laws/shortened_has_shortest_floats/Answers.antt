use Rattle.cbor_rules.proofs.laws.shortened_has_shortest_floats.Goals as goal
use Rattle.cbor_rules.proofs.Deterministic as proved

pub returns : goal.returns
returns c = proved.shortened_short c.shortened_once.ensures
