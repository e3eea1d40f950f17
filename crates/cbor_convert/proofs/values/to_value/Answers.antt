use Rattle.std.proofs.Common.{◌∙◌}
use Rattle.cbor_convert.proofs.Spelled.{value_answered, stored_answered, ordered_answered, memory_answered}
use Rattle.cbor_convert.proofs.values.to_value.Goals as goal

pub returns-clause-value : goal.returns-clause-value
returns-clause-value g c =
    let w = c.in_ok-bytes.ensures in
    value_answered (g.T.Serialize.document c.args.value.now) c.deref.result.now c.value_in.result w.storable w.in_range (c.deref.ensures.value ∙ w.written) c.deref.type_inv.0 c.value_in.ensures

pub returns-clause-stored : goal.returns-clause-stored
returns-clause-stored g c =
    let w = c.in_ok-bytes.ensures in
    stored_answered (g.T.Serialize.document c.args.value.now) c.deref.result.now c.value_in.result w.storable w.in_range (c.deref.ensures.value ∙ w.written) c.deref.type_inv.0 c.value_in.ensures

pub returns-clause-ordered : goal.returns-clause-ordered
returns-clause-ordered g c =
    let w = c.in_ok-bytes.ensures in
    ordered_answered (g.T.Serialize.document c.args.value.now) c.deref.result.now c.value_in.result w.storable w.in_range (c.deref.ensures.value ∙ w.written) c.deref.type_inv.0 c.value_in.ensures

pub returns-clause-refused : goal.returns-clause-refused
returns-clause-refused g c =
    let w = c.in_ok-bytes.ensures in
    memory_answered (g.T.Serialize.document c.args.value.now) c.deref.result.now c.value_in.result w.storable w.in_range (c.deref.ensures.value ∙ w.written) c.deref.type_inv.0 c.value_in.ensures
