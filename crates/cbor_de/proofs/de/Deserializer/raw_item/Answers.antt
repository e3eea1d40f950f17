use Rattle.std.proofs.Common.{arith}
use Rattle.cbor_de.proofs.values.RawValues.{gathered_encodes}
use Rattle.cbor_de.proofs.de.Deserializer.raw_item.Goals as goal

pub raw_value-requires : goal.raw_value-requires
raw_value-requires g c = gathered_encodes c.in-Ok.bytes.items (omega (arith, c.in-Ok.bytes.small)) c.in-Ok.ensures.ok.item
