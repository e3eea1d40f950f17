use Rattle.cbor_model.specs.Document.{document_of}
use Rattle.cbor_ser.proofs.serializer.Serializer.serialize_f64.Goals as goal

pub returns : goal.returns
unfolding document_of
returns g c = rw c.from.ensures at c.serialize_float.ensures
