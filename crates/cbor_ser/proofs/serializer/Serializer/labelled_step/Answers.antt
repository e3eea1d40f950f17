use Rattle.std.proofs.Common.{rules, FitsSigned}
use Rattle.std.specs.Int.{w64}
use Rattle.std.proofs.lemmas.Int.{to_z-of_z}
use Rattle.std.proofs.lemmas.Option.{IfSome_then}
use Rattle.cbor_model.specs.Parts.{item}
use Rattle.cbor_ser.proofs.Keyed.{each_held}
use Rattle.cbor_ser.proofs.WriteSteps.{step_then, step_stops}
use Rattle.cbor_ser.proofs.serializer.Serializer.labelled_step.Goals as goal

pub returns-in_err-label_step : goal.returns-in_err-label_step
returns-in_err-label_step g c =
    let label = c.args.label in
    let fits : FitsSigned w64 label = search rules in
    let stopped = rw (to_z-of_z w64 label fits) at c.in_err-label_step.ensures.err in
    each_held (g.A.SerializeField.document c.args.field.now) (λ d. step_stops (item d) c.from_residual.ensures.0 stopped)

pub returns : goal.returns
returns g c =
    let label = c.args.label in
    let fits : FitsSigned w64 label = search rules in
    let added = rw (to_z-of_z w64 label fits) at c.in_ok-label_step.ensures.ok in
    IfSome_then (g.A.SerializeField.document c.args.field.now) c.serialize_content.ensures.written (λ d held. step_then added held)
