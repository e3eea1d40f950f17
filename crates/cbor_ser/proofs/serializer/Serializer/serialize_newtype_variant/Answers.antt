use Rattle.cbor_ser.proofs.WriteSteps.{and_then, stops}
use Rattle.cbor_ser.proofs.WriteSteps.{by_parts}
use Rattle.cbor_ser.proofs.serializer.Serializer.serialize_newtype_variant.Goals as goal

pub returns-in_err-write_newtype_head : goal.returns-in_err-write_newtype_head
returns-in_err-write_newtype_head g c = by_parts (stops c.from_residual.ensures.1 c.in_err-write_newtype_head.ensures.err)

pub returns : goal.returns
returns g c = by_parts (and_then c.in_ok-write_newtype_head.ensures.ok c.serialize.ensures)
