use Rattle.std.proofs.Common.{refl}
use Rattle.cbor_convert.proofs.variants.SerializeTupleVariant.new.Goals as goal

pub returns : goal.returns
returns c = record { name = refl; parts = c.new.ensures }
