use Rattle.std.proofs.Common.{◌≡◌, ap, sym, refl, Some, rules}
use Rattle.std.specs.Prelude.{Ok}
use Rattle.cbor_model.specs.Document.{docs}
use Rattle.cbor_model.specs.Parts.{items, ending, part_bytes}
use Rattle.cbor_ser.proofs.WriteSteps.{step_then, step_stops, same_step, nothing_step}
use Rattle.cbor_ser.proofs.serializer.Serializer.members_step.Goals as goal

pub loop-one-init : goal.loop-one-init
loop-one-init g c = λ new done o h.
    let all : c.into_iter-one-iterator.result ≡ c.args.set.now.keys = search rules in
    same_step (ap (λ xs. items (docs g.T.Serialize.document xs) (ending (Some 0))) all) h

pub returns-in_err-serialize_step : goal.returns-in_err-serialize_step
returns-in_err-serialize_step g c = c.loop-one.invariant _ _ _ (same_step (ap (λ xs. items (docs g.T.Serialize.document xs) (ending (Some 0))) (sym c.in-Some.ensures.steps))
    (step_stops _ c.from_residual.ensures.0 c.in_err-serialize_step.ensures.err))

pub loop-one-preserved : goal.loop-one-preserved
loop-one-preserved g c = λ new done o rest. c.loop-one.invariant new done o (same_step (ap (λ xs. items (docs g.T.Serialize.document xs) (ending (Some 0))) (sym c.in-Some.ensures.steps))
    (step_then c.in_ok-serialize_step.ensures.ok rest))

pub returns : goal.returns
unfolding part_bytes
returns g c = c.loop-one.invariant _ (Ok tt) _ (same_step (ap (λ xs. items (docs g.T.Serialize.document xs) (ending (Some 0))) (sym c.in-None.ensures.steps.0)) (nothing_step (ending (Some 0)) refl tt tt))
