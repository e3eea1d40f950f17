use Rattle.cbor_ser.proofs.WriteSteps.{answered}
use Rattle.cbor_ser.proofs.serializer.Serializer.serialize_bytes.Goals as goal

pub returns : goal.returns
returns g c = answered c.answer.ensures.ok c.answer.ensures.err c.bytes_step-done.ensures
