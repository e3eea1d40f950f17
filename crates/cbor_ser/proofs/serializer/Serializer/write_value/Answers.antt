use Rattle.std.proofs.Common.{refl}
use Rattle.cbor_ser.proofs.Beginnings.{reported, reported_refused, reported_fits, reported_ok}
use Rattle.cbor_model.specs.Document.{document_of}
use Rattle.cbor_value.specs.View.{view}
use Rattle.cbor_ser.proofs.Narrowed.{wide_under}
use Rattle.cbor_ser.proofs.WriteSteps.{serialized_value}
use Rattle.cbor_ser.proofs.serializer.Serializer.write_value.Goals as goal

pub returns : goal.returns
returns g c =
    let done = c.put_value-done in
    let v = view c.args.v.now in
    serialized_value v c.answer.result (wide_under c.args.self.now.settings.shortest (document_of v) c.if-self.false) refl done.ensures.same_references done.ensures.same_capacity
    (reported_ok _ _ done.result _ c.answer.result c.answer.ensures.err done.ensures.refused done.ensures.storable)
    (reported_ok _ _ done.result _ c.answer.result c.answer.ensures.err done.ensures.refused done.ensures.in_memory)
    (reported _ done.result _ c.answer.result c.answer.ensures.ok c.answer.ensures.err done.ensures.refused done.ensures.written)
    (reported_refused _ done.result _ c.answer.result c.answer.ensures.ok c.answer.ensures.err done.ensures.refused)
    (λ storable. reported_fits done.result c.answer.result c.answer.ensures.ok (done.ensures.fits storable))
    done.ensures.before
