use Rattle.cbor_ser.proofs.WriteSteps.{answered}
use Rattle.cbor_ser.proofs.serializer.Serializer.write_mapping.Goals as goal

pub returns : goal.returns
returns g c = answered c.answer.ensures.ok c.answer.ensures.err c.mapping_step-done.ensures
