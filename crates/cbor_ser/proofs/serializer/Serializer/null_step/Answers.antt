use Rattle.std.proofs.Common.{refl}
use Rattle.cbor_ser.proofs.WriteSteps.{stepped}
use Rattle.cbor_model.specs.Parts.{part_bytes, item}
use Rattle.cbor_model.specs.Document as document
use Rattle.cbor_model.specs.Document.{document_bytes, raw_of}
use Rattle.cbor_model.specs.Spelling.{spell}
use Rattle.cbor_ser.proofs.serializer.Serializer.null_step.Goals as goal

pub returns : goal.returns
unfolding part_bytes document_bytes raw_of spell
returns g c =
    let done = c.put in
    stepped (item document.null) done.result (record { same = refl; storable = tt; in_range = tt }) refl done.ensures.same_references done.ensures.same_capacity done.ensures.written done.ensures.refused done.ensures.fits
