use Rattle.cbor_model.proofs.laws.stored_or_stops.Goals as goal
use Rattle.cbor_model.proofs.Proved as proved

pub returns : goal.returns
returns c = proved.stored_or_stops
