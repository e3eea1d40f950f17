use Rattle.std.proofs.Common.{refl, Some}
use Rattle.std.specs.Prelude.{Ok}
use Rattle.cbor_model.specs.Document.{docs}
use Rattle.cbor_model.specs.Parts.{ending, items, part_bytes}
use Rattle.cbor_ser.proofs.Lists.{next_item, no_item}
use Rattle.cbor_ser.proofs.WriteSteps.{step_then, step_stops, same_step, nothing_step}
use Rattle.cbor_ser.proofs.serializer.Serializer.items_step.Goals as goal

pub loop-one-init : goal.loop-one-init
loop-one-init g c = λ new done o h. h

pub returns-in_err-serialize_step : goal.returns-in_err-serialize_step
returns-in_err-serialize_step g c = c.loop-one.invariant _ _ _ (same_step (next_item g.T.Serialize.document (ending (Some 0)) _ _ _ c.loop-one-test.true c.one-item.is)
    (step_stops _ c.from_residual.ensures.0 c.in_err-serialize_step.ensures.err))

pub loop-one-preserved : goal.loop-one-preserved
loop-one-preserved g c = λ new done o rest. c.loop-one.invariant new done o (same_step (next_item g.T.Serialize.document (ending (Some 0)) _ _ _ c.loop-one-test.true c.one-item.is)
    (step_then c.in_ok-serialize_step.ensures.ok rest))

pub returns : goal.returns
unfolding part_bytes
returns g c = c.loop-one.invariant _ (Ok tt) _ (same_step (no_item g.T.Serialize.document (ending (Some 0)) _ _ c.loop-one-test.false) (nothing_step (ending (Some 0)) refl tt tt))
