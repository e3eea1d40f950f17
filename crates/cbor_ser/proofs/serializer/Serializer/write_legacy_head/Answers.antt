use Rattle.cbor_ser.proofs.WriteSteps.{and_then, stops}
use Rattle.cbor_ser.proofs.serializer.Serializer.write_legacy_head.Goals as goal

pub returns-in_err-write_array_head : goal.returns-in_err-write_array_head
returns-in_err-write_array_head g c = stops c.from_residual.ensures.1 c.in_err-write_array_head.ensures.err

pub returns : goal.returns
returns g c = and_then c.in_ok-write_array_head.ensures.ok c.write_identifier.ensures
