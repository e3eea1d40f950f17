use Rattle.cbor_ser.proofs.WriteSteps.{and_then, stops}
use Rattle.cbor_ser.proofs.serializer.Serializer.write_map_key.Goals as goal

pub returns-in_err-write_map_head : goal.returns-in_err-write_map_head
returns-in_err-write_map_head g c = stops c.from_residual.ensures.1 c.in_err-write_map_head.ensures.err

pub returns : goal.returns
returns g c = and_then c.in_ok-write_map_head.ensures.ok c.write_key.ensures
