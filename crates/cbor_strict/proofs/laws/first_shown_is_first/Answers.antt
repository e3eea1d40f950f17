use Rattle.cbor_strict.proofs.laws.first_shown_is_first.Goals as goal
use Rattle.cbor_strict.proofs.Strict as strict

pub returns : goal.returns
returns c = strict.first_of_item
