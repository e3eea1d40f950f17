use Rattle.cbor_model.proofs.laws.order_is_total.Goals as goal
use Rattle.cbor_model.proofs.Proved as proved

pub returns : goal.returns
returns c = proved.order_is_total
