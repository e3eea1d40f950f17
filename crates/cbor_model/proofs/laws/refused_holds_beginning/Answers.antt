use Rattle.cbor_model.proofs.laws.refused_holds_beginning.Goals as goal
use Rattle.cbor_model.proofs.Proved as proved

pub returns : goal.returns
returns c = proved.refused_holds_beginning
