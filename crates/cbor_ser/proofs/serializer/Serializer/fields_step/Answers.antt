use Rattle.cbor_ser.specs.Labels.{keyed_fields}
use Rattle.cbor_ser.proofs.WriteSteps.{step_by_parts, step_then, step_stops, same_step}
use Rattle.cbor_ser.proofs.Keyed.{head_of}
use Rattle.cbor_ser.proofs.serializer.Serializer.fields_step.Goals as goal

pub returns-in_err-map_step : goal.returns-in_err-map_step
returns-in_err-map_step g c =
    let ns = g.K.SerializeKeys.names c.args.keys in
    let labels = g.K.SerializeKeys.labels c.args.keys in
    let fs = g.F.SerializeFields.fields ns c.args.fields.now in
    step_by_parts (same_step (head_of labels fs c.len.result (c.len.ensures ns)) (step_stops (keyed_fields labels fs) c.from_residual.ensures.0 c.in_err-map_step.ensures.err))

pub returns : goal.returns
returns g c =
    let ns = g.K.SerializeKeys.names c.args.keys in
    let labels = g.K.SerializeKeys.labels c.args.keys in
    let fs = g.F.SerializeFields.fields ns c.args.fields.now in
    step_by_parts (same_step (head_of labels fs c.len.result (c.len.ensures ns)) (step_then c.in_ok-map_step.ensures.ok c.serialize_as_fields.ensures))
