use Rattle.std.proofs.Common.{sym, ap, ◌∙◌}
use Rattle.cbor_value.specs.View.{views}
use Rattle.cbor_convert.proofs.Meanings.{values_none}
use Rattle.cbor_convert.proofs.list.SerializeVec.new.Goals as goal

pub returns : goal.returns
returns c = record { values = ap views c.new.ensures.items ∙ sym values_none; storable = tt }
