use Rattle.cbor_ser.proofs.WriteSteps.{answered, by_parts, and_then, stops, same}
use Rattle.cbor_ser.proofs.FieldsByName.{variant_head_of}
use Rattle.cbor_ser.proofs.described.NamedFieldsSerializeVariant.serialize_variant.Goals as goal

pub returns-in_err-write_struct_head : goal.returns-in_err-write_struct_head
returns-in_err-write_struct_head g c =
    let fs = g.F.SerializeFields.fields g.N.FieldNames.names c.args.self.now.1 in
    by_parts (same (variant_head_of c.args.number c.args.name.now fs c.len.result (c.len.ensures g.N.FieldNames.names)) (stops c.from_residual.ensures.1 c.in_err-write_struct_head.ensures.err))

pub returns : goal.returns
returns g c =
    let fs = g.F.SerializeFields.fields g.N.FieldNames.names c.args.self.now.1 in
    by_parts (same (variant_head_of c.args.number c.args.name.now fs c.len.result (c.len.ensures g.N.FieldNames.names)) (and_then c.in_ok-write_struct_head.ensures.ok (rw c.names.ensures.names at (answered c.answer.ensures.ok c.answer.ensures.err c.serialize_as_fields-done.ensures))))
