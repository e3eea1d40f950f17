use Rattle.std.proofs.Common.{◌≡◌, [], ◌∙◌, true, false, rules, ap}
use Rattle.cbor_ser.proofs.Bytes.{spells_values}
use Rattle.cbor_ser.proofs.WriteSteps.{vector_holds}
use Rattle.cbor_ser.proofs.to_vec_packed.Goals as goal

pub returns-clause-written : goal.returns-clause-written
returns-clause-written g c =
    let d = g.T.Serialize.document c.args.value.now in
    let empty : c.packed_format-ser.result.writer.items ≡ [] = search rules in
    let packed : c.packed_format-ser.result.settings ≡ record { packed = true; legacy = false; shortest = false } = search rules in
    ap (λ v. v.items) c.into_inner.ensures ∙ vector_holds d true false empty packed c.in_ok-serialize.ensures.ok

pub returns-clause-canonical : goal.returns-clause-canonical
returns-clause-canonical g c =
    let d = g.T.Serialize.document c.args.value.now in
    let empty : c.packed_format-ser.result.writer.items ≡ [] = search rules in
    let packed : c.packed_format-ser.result.settings ≡ record { packed = true; legacy = false; shortest = false } = search rules in
    spells_values c.into_inner.result.items d true false c.in_ok-serialize.ensures.ok.storable c.in_ok-serialize.ensures.ok.in_range
    (ap (λ v. v.items) c.into_inner.ensures ∙ vector_holds d true false empty packed c.in_ok-serialize.ensures.ok)
