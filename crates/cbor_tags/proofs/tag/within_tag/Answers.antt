use Rattle.std.proofs.Common.{rules, refl}
use Rattle.cbor_ser.proofs.facts.Serialize.{by_parts, and_then, stops}
use Rattle.cbor_tags.proofs.tag.within_tag.Goals as goal

pub returns-in_err-serialize_tag : goal.returns-in_err-serialize_tag
returns-in_err-serialize_tag g c = by_parts (stops c.in_err-serialize_tag.ensures.err refl c.from_residual.ensures.1 (search rules))

pub returns : goal.returns
returns g c = by_parts (and_then c.in_ok-serialize_tag.ensures.ok refl c.serialize.ensures)
