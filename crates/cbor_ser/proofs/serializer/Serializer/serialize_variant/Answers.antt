use Rattle.std.proofs.Common.{ℕ, List, length, ◌<◌, ap, arith}
use Rattle.cbor_model.specs.Parts.{item}
use Rattle.cbor_ser.proofs.WriteSteps.{same}
use Rattle.cbor_ser.proofs.FieldsByName.{named_at}
use Rattle.cbor_ser.proofs.serializer.Serializer.serialize_variant.Goals as goal

pub returns : goal.returns
returns g c =
    let numbered : c.args.number < length c.names-names.result.now = omega (arith, c.requires.numbered, c.names-names.ensures.as_many) in
    rw c.names-names.ensures.names at (same (ap (λ (n : List ℕ). item (g.V.SerializeVariant.document c.args.number n c.args.content.now)) (named_at c.names-names.result.now c.args.number _ numbered)) c.serialize_variant.ensures)
