use Rattle.std.proofs.Common.{refl, sym, ap, ◌∙◌}
use Rattle.cbor_ser.proofs.WriteSteps.{float_storable, stepped}
use Rattle.cbor_value.specs.View.{float_view}
use Rattle.cbor_model.proofs.facts.Documents.{document_is_canonical, storable_document, document_in_range}
use Rattle.cbor_model.specs.Parts.{part_bytes, item}
use Rattle.cbor_model.specs.Document as document
use Rattle.cbor_model.specs.Document.{document_bytes}
use Rattle.cbor_ser.proofs.serializer.Serializer.float_step.Goals as goal

pub returns : goal.returns
unfolding part_bytes
returns g c =
    let done = c.put_float in
    let s = c.args.self.now.settings in
    let v = float_view c.args.v in
    let float = c.as_set-float in
    stepped (item (document.document_of v)) done.result
    (record { same = ap (λ (d : document.Doc). document_bytes d s.packed s.legacy) (sym float.ensures.written) ∙ document_is_canonical (float_view float.result) s.packed s.legacy; storable = storable_document v (float_storable c.args.v); in_range = document_in_range v float.ensures.in_memory }) refl done.ensures.same_references done.ensures.same_capacity
    done.ensures.written done.ensures.refused done.ensures.fits
