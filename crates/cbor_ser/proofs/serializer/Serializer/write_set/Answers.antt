use Rattle.cbor_ser.proofs.WriteSteps.{answered}
use Rattle.cbor_ser.proofs.serializer.Serializer.write_set.Goals as goal

pub returns : goal.returns
returns g c = answered c.answer.ensures.ok c.answer.ensures.err c.set_step-done.ensures
