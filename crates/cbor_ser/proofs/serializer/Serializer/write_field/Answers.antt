use Rattle.cbor_ser.proofs.WriteSteps.{and_then, stops, same_part}
use Rattle.cbor_ser.proofs.WrittenHeads.{field_same}
use Rattle.cbor_model.specs.Parts.{item}
use Rattle.cbor_ser.proofs.serializer.Serializer.write_field.Goals as goal

pub returns-in_err-write_identifier : goal.returns-in_err-write_identifier
returns-in_err-write_identifier g c =
    let d = g.T.Serialize.document c.args.v.now in
    same_part (field_same _ _ _ d) (stops {g = item d} c.from_residual.ensures.1 c.in_err-write_identifier.ensures.err)

pub returns : goal.returns
returns g c =
    let d = g.T.Serialize.document c.args.v.now in
    same_part (field_same _ _ _ d) (and_then c.in_ok-write_identifier.ensures.ok c.serialize.ensures)
