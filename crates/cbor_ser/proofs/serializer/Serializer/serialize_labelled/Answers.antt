use Rattle.std.proofs.Common.{◌∙◌, sym}
use Rattle.cbor_ser.proofs.serializer.Serializer.serialize_labelled.Goals as goal

pub fields_step-done-requires : goal.fields_step-done-requires
fields_step-done-requires g c = c.labels.ensures.as_many ∙ sym c.requires
