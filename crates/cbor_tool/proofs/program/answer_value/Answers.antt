use Rattle.std.proofs.Common.{inl, inr, sym, subst}
use Rattle.std.proofs.lemmas.Result.{on_ok_weaker}
use Rattle.serde_cbor.specs.Error.{IsOutOfMemory}
use Rattle.serde_cbor.specs.View.{view}
use Rattle.cbor_tool.specs.Answer.{shown}
use Rattle.cbor_tool.proofs.Answers.{answered_refused, memory_reported, IsOutOfMemory-not_written, err_weaker}
use Rattle.cbor_tool.proofs.program.answer_value.Goals as goal

pub returns-in-Err-clause-ok : goal.returns-in-Err-clause-ok
returns-in-Err-clause-ok c =
    on_ok_weaker c.answer_error.result
    (λ h. answered_refused c.args.mode _ _ c.in-Err.error c.in-Err.ensures.refused
    c.in-Err.ensures.accepted h.0 h.1)
    c.answer_error.ensures.ok

pub returns-in-Err-clause-err : goal.returns-in-Err-clause-err
returns-in-Err-clause-err c =
    err_weaker c.answer_error.result
    (λ e h. elim h [
      | inl memory ↦ memory
      | inr same ↦ subst IsOutOfMemory (sym same.1) (memory_reported c.args.mode c.args.bytes.now c.in-Err.error c.in-Err.ensures.refused same.0)
    ])
    c.answer_error.ensures.err

pub returns-in-Ok-clause-ok : goal.returns-in-Ok-clause-ok
returns-in-Ok-clause-ok c = on_ok_weaker c.show.result (λ is. shown (view c.in-Ok.value) c.in-Ok.ensures.found is) c.show.ensures.ok

pub returns-in-Ok-clause-err : goal.returns-in-Ok-clause-err
returns-in-Ok-clause-err c =
    err_weaker c.show.result (λ e. IsOutOfMemory-not_written c.args.mode c.args.bytes.now (view c.in-Ok.value) e c.in-Ok.ensures.found) c.show.ensures.err
