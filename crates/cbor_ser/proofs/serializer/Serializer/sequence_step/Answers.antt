use Rattle.std.proofs.Common.{ap, Some}
use Rattle.cbor_model.specs.Document.{docs}
use Rattle.cbor_model.specs.Parts.{array_head, in_turn, ending, items}
use Rattle.cbor_ser.proofs.Lists.{count_docs}
use Rattle.cbor_ser.proofs.WriteSteps.{step_by_parts, step_then, step_stops, same_step}
use Rattle.cbor_ser.proofs.serializer.Serializer.sequence_step.Goals as goal

pub returns-in_err-array_step : goal.returns-in_err-array_step
returns-in_err-array_step g c =
    let rest = items (docs g.T.Serialize.document c.args.list.now) (ending (Some 0)) in
    step_by_parts (same_step (ap (λ n. in_turn (array_head (Some n)) rest) (count_docs g.T.Serialize.document c.args.list.now)) (step_stops rest c.from_residual.ensures.0 c.in_err-array_step.ensures.err))

pub returns : goal.returns
returns g c =
    let rest = items (docs g.T.Serialize.document c.args.list.now) (ending (Some 0)) in
    step_by_parts (same_step (ap (λ n. in_turn (array_head (Some n)) rest) (count_docs g.T.Serialize.document c.args.list.now)) (step_then c.in_ok-array_step.ensures.ok c.items_step.ensures))
