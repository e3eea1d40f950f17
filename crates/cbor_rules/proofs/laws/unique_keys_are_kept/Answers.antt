use Rattle.cbor_rules.proofs.laws.unique_keys_are_kept.Goals as goal
use Rattle.cbor_rules.proofs.Unique as unique

pub returns : goal.returns
returns c = unique.unique_keys_are_kept
