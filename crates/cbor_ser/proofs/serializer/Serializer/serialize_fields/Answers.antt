use Rattle.cbor_ser.proofs.WriteSteps.{answered, same}
use Rattle.std.proofs.Common.{ap}
use Rattle.cbor_model.specs.Document.{structure}
use Rattle.cbor_model.specs.Parts.{item}
use Rattle.cbor_ser.proofs.serializer.Serializer.serialize_fields.Goals as goal

pub returns : goal.returns
returns g c = same (ap (λ ns. item (structure (g.F.SerializeFields.fields ns c.args.fields.now))) c.names.ensures.names) (answered c.answer.ensures.ok c.answer.ensures.err c.fields_step-done.ensures)
