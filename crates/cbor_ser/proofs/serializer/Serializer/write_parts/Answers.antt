use Rattle.cbor_model.specs.Document.{doc, no_docs}
use Rattle.cbor_ser.proofs.WriteSteps.{last}
use Rattle.cbor_ser.proofs.serializer.Serializer.write_parts.Goals as goal

pub returns-in-Ok : goal.returns-in-Ok
returns-in-Ok g c = c.in-Ok.ensures.ok (doc (g.L.Serialize.document c.args.last.now) no_docs) c.serialize.new.ser c.serialize.result (last c.serialize.ensures)
