use Rattle.std.proofs.Common.{rules, refl}
use Rattle.serde_cbor.proofs.facts.Serialize.{by_parts, and_then, head_stops, stops, ends}
use Rattle.own_types.proofs.by_hand.PointSerialize.serialize.Goals as goal

pub returns-in_err-fields : goal.returns-in_err-fields
returns-in_err-fields g c = by_parts (head_stops c.serialize_struct.follows.holds-at-none c.in_err-fields.was c.from_residual.ensures.1)

pub returns-in_err-serialize_field : goal.returns-in_err-serialize_field
returns-in_err-serialize_field g c = by_parts (and_then c.in_ok-fields.ensures.head refl (stops c.in_err-serialize_field.ensures.wrote.err (search rules) c.from_residual-in_err-serialize_field.ensures.1 (search rules)))

pub returns-in_err-serialize_field-2 : goal.returns-in_err-serialize_field-2
returns-in_err-serialize_field-2 g c = by_parts (and_then c.in_ok-fields.ensures.head refl (and_then c.in_ok-serialize_field.ensures.wrote.ok (search rules) (stops c.in_err-serialize_field-2.ensures.wrote.err (search rules) c.from_residual-in_err-serialize_field-2.ensures.1 (search rules))))

pub returns : goal.returns
returns g c = by_parts (and_then c.in_ok-fields.ensures.head refl (and_then c.in_ok-serialize_field.ensures.wrote.ok (search rules) (and_then c.in_ok-serialize_field-2.ensures.wrote.ok (search rules) (ends c.end.ensures refl (search rules)))))
