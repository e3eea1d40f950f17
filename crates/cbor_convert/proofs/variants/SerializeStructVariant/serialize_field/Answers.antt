use Rattle.cbor_convert.proofs.BuilderParts.{fields_held}
use Rattle.cbor_convert.proofs.variants.SerializeStructVariant.serialize_field.Goals as goal

pub returns-clause-held : goal.returns-clause-held
returns-clause-held g c = λ n ps h. fields_held n ps _ _ _ h.name (c.push_field.ensures.held ps h.fields)
