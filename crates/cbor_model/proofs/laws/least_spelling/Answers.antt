use Rattle.cbor_model.proofs.laws.least_spelling.Goals as goal
use Rattle.cbor_model.proofs.Proved as proved

pub returns : goal.returns
returns c = proved.least_spelling
