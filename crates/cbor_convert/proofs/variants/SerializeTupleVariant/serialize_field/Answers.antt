use Rattle.cbor_convert.proofs.BuilderParts.{parts_held}
use Rattle.cbor_convert.proofs.variants.SerializeTupleVariant.serialize_field.Goals as goal

pub returns-clause-held : goal.returns-clause-held
returns-clause-held g c = λ n ds h. parts_held n ds _ _ _ h.name (c.serialize_element.ensures.held ds h.parts)
