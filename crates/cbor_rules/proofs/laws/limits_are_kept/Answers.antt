use Rattle.cbor_rules.proofs.Limits.{items_are_few, pairs_are_few, bytes_are_few}
use Rattle.cbor_rules.proofs.laws.limits_are_kept.Goals as goal

pub returns-clause-items : goal.returns-clause-items
returns-clause-items c = items_are_few

pub returns-clause-pairs : goal.returns-clause-pairs
returns-clause-pairs c = pairs_are_few

pub returns-clause-bytes : goal.returns-clause-bytes
returns-clause-bytes c = bytes_are_few
