use Rattle.cbor_model.proofs.laws.all_that_fit_is_held.Goals as goal
use Rattle.cbor_model.proofs.Proved as proved

pub returns : goal.returns
returns c = proved.all_that_fit_is_held
