use Rattle.std.proofs.Common.{◌≡◌, ap, sym, refl, Some, rules}
use Rattle.std.specs.Prelude.{Ok}
use Rattle.cbor_model.specs.Document.{doc_pairs}
use Rattle.cbor_model.specs.Parts.{pairs, ending, part_bytes}
use Rattle.cbor_ser.proofs.WriteSteps.{step_then, step_stops, same_step, nothing_step}
use Rattle.cbor_ser.proofs.serializer.Serializer.entries_step.Goals as goal

pub loop-key-init : goal.loop-key-init
loop-key-init g c = λ new done o h.
    let all : c.into_iter-key-iterator.result ≡ c.args.map.now.entries = search rules in
    same_step (ap (λ es. pairs (doc_pairs g.K.Serialize.document g.V.Serialize.document es) (ending (Some 0))) all) h

pub returns-in_err-serialize_step : goal.returns-in_err-serialize_step
returns-in_err-serialize_step g c = c.loop-key.invariant _ _ _ (same_step (ap (λ es. pairs (doc_pairs g.K.Serialize.document g.V.Serialize.document es) (ending (Some 0))) (sym c.in-Some.ensures.steps))
    (step_stops _ c.from_residual.ensures.0 c.in_err-serialize_step.ensures.err))

pub returns-in_err-serialize_step-2 : goal.returns-in_err-serialize_step-2
returns-in_err-serialize_step-2 g c = c.loop-key.invariant _ _ _ (same_step (ap (λ es. pairs (doc_pairs g.K.Serialize.document g.V.Serialize.document es) (ending (Some 0))) (sym c.in-Some.ensures.steps))
    (step_then c.in_ok-serialize_step.ensures.ok (step_stops _ c.from_residual-in_err-serialize_step-2.ensures.0 c.in_err-serialize_step-2.ensures.err)))

pub loop-key-preserved : goal.loop-key-preserved
loop-key-preserved g c = λ new done o rest. c.loop-key.invariant new done o (same_step (ap (λ es. pairs (doc_pairs g.K.Serialize.document g.V.Serialize.document es) (ending (Some 0))) (sym c.in-Some.ensures.steps))
    (step_then c.in_ok-serialize_step.ensures.ok (step_then c.in_ok-serialize_step-2.ensures.ok rest)))

pub returns : goal.returns
unfolding part_bytes
returns g c = c.loop-key.invariant _ (Ok tt) _ (same_step (ap (λ es. pairs (doc_pairs g.K.Serialize.document g.V.Serialize.document es) (ending (Some 0))) (sym c.in-None.ensures.steps.0)) (nothing_step (ending (Some 0)) refl tt tt))
