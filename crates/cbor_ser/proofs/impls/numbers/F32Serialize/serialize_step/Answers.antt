use Rattle.cbor_model.specs.Document.{document_of}
use Rattle.cbor_ser.proofs.impls.numbers.F32Serialize.serialize_step.Goals as goal

pub returns : goal.returns
unfolding document_of
returns g c = rw c.from.ensures at c.float_step.ensures
