use Rattle.std.proofs.Common.{ℕ, ap, Some}
use Rattle.cbor_model.specs.Parts.{in_turn, tuple_head, items, ending}
use Rattle.cbor_ser.proofs.WriteSteps.{by_parts, and_then, stops, same}
use Rattle.cbor_ser.proofs.described.TupleSerializeVariant.serialize_variant.Goals as goal

pub returns-in_err-write_tuple_head : goal.returns-in_err-write_tuple_head
returns-in_err-write_tuple_head g c =
    let ds = g.F.SerializeTuple.documents c.args.self.now.0 in
    by_parts (same (ap (λ (n : ℕ). in_turn (tuple_head c.args.number c.args.name.now n) (items ds (ending (Some 0)))) c.len.ensures.documents) (stops c.from_residual.ensures.1 c.in_err-write_tuple_head.ensures.err))

pub returns : goal.returns
returns g c =
    let ds = g.F.SerializeTuple.documents c.args.self.now.0 in
    by_parts (same (ap (λ (n : ℕ). in_turn (tuple_head c.args.number c.args.name.now n) (items ds (ending (Some 0)))) c.len.ensures.documents) (and_then c.in_ok-write_tuple_head.ensures.ok c.serialize_items.ensures))
