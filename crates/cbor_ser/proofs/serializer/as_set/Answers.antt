use Rattle.std.proofs.Common.{◌∙◌, Bool, sym, ap}
use Rattle.cbor_model.specs.Document.{document_of}
use Rattle.cbor_value.specs.View.{float_view}
use Rattle.cbor_ser.specs.Narrowed.{narrowed}
use Rattle.cbor_ser.proofs.Narrowed.{wide_under, float_narrowed}
use Rattle.cbor_ser.proofs.serializer.as_set.Goals as goal

pub returns-then-shortest-clause-written : goal.returns-then-shortest-clause-written
returns-then-shortest-clause-written c =
    let d = document_of (float_view c.args.v) in
    ap document_of c.shortened.ensures.shortest ∙ sym (float_narrowed c.args.v) ∙ ap (λ (b : Bool). narrowed b d) (sym c.if-shortest.true)

pub returns-else-shortest-clause-written : goal.returns-else-shortest-clause-written
returns-else-shortest-clause-written c = sym (wide_under c.args.shortest (document_of (float_view c.args.v)) c.if-shortest.false)
