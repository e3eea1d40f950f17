use Rattle.std.proofs.Common.{refl}
use Rattle.cbor_convert.proofs.variants.SerializeStructVariant.new.Goals as goal

pub returns : goal.returns
returns c = record { name = refl; fields = c.new.ensures }
