use Rattle.std.proofs.Common.{rules, refl}
use Rattle.cbor_ser.proofs.facts.Serialize.{by_parts, and_then, stops}
use Rattle.cbor_convert.proofs.tagged.TaggedSerialize.serialize.Goals as goal

pub returns-in_err-serialize_tag-in-Some : goal.returns-in_err-serialize_tag-in-Some
returns-in_err-serialize_tag-in-Some g c = rw c.in-Some.is (by_parts (stops c.in_err-serialize_tag-in-Some.ensures.err refl c.from_residual.ensures.1 (search rules)))

pub returns-in_ok-serialize_tag-in-Some : goal.returns-in_ok-serialize_tag-in-Some
returns-in_ok-serialize_tag-in-Some g c = rw c.in-Some.is (by_parts (and_then c.in_ok-serialize_tag-in-Some.ensures.ok refl c.serialize.ensures))
