use Rattle.std.proofs.Common.{rules, FitsSigned}
use Rattle.std.specs.Int.{w64}
use Rattle.std.proofs.lemmas.Int.{to_z-of_z}
use Rattle.cbor_ser.proofs.WriteSteps.{integer_storable}
use Rattle.cbor_model.specs.Parts.{part_bytes, item}
use Rattle.cbor_model.specs.Document as document
use Rattle.cbor_model.specs.Document.{document_bytes, raw_of}
use Rattle.cbor_ser.proofs.serializer.Serializer.signed_step.Goals as goal

pub returns : goal.returns
unfolding part_bytes document_bytes raw_of
returns g c =
    let v = c.args.v in
    let fits : FitsSigned w64 v = search rules in
    c.head_step.ensures (item (document.integer v)) (record { same = rw (to_z-of_z w64 v fits) at c.integer_head-major.ensures; storable = integer_storable v c.ranges.v; in_range = tt })
