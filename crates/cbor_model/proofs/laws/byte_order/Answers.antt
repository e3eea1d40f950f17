use Rattle.cbor_model.proofs.laws.byte_order.Goals as goal
use Rattle.cbor_model.proofs.Proved as proved

pub returns : goal.returns
returns c = proved.byte_order
