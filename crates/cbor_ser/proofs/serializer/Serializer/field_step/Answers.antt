use Rattle.std.proofs.lemmas.Option.{IfSome_then}
use Rattle.cbor_model.specs.Parts.{item}
use Rattle.cbor_ser.proofs.Keyed.{each_held}
use Rattle.cbor_ser.proofs.WriteSteps.{step_then, step_stops, same_part_step}
use Rattle.cbor_ser.proofs.WrittenHeads.{field_same}
use Rattle.cbor_ser.proofs.serializer.Serializer.field_step.Goals as goal

pub returns-in_err-identifier_step : goal.returns-in_err-identifier_step
returns-in_err-identifier_step g c =
    each_held (g.A.SerializeField.document c.args.field.now)
    (λ d. same_part_step (field_same _ _ _ d) (step_stops (item d) c.from_residual.ensures.0 c.in_err-identifier_step.ensures.err))

pub returns : goal.returns
returns g c =
    IfSome_then (g.A.SerializeField.document c.args.field.now) c.serialize_content.ensures.written
    (λ d held. same_part_step (field_same _ _ _ d) (step_then c.in_ok-identifier_step.ensures.ok held))
