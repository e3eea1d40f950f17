use Rattle.cbor_ser.proofs.WriteSteps.{and_then, stops}
use Rattle.cbor_ser.proofs.serializer.Serializer.write_struct_head.Goals as goal

pub returns-in_err-write_struct_key : goal.returns-in_err-write_struct_key
returns-in_err-write_struct_key g c = stops c.from_residual.ensures.1 c.in_err-write_struct_key.ensures.err

pub returns : goal.returns
returns g c = and_then c.in_ok-write_struct_key.ensures.ok c.write_map_head.ensures
