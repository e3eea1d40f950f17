use Rattle.std.proofs.Common.{◌∙◌}
use Rattle.std.proofs.lemmas.Result.{err_from_is_err_and}
use Rattle.cbor_tool.specs.RunSteps.{answered_in}
use Rattle.cbor_tool.proofs.Writing.{AppendsUpTo-whole}
use Rattle.cbor_tool.proofs.program.write_answer.Goals as goal

pub returns-in_err-flush-clause-err : goal.returns-in_err-flush-clause-err
returns-in_err-flush-clause-err g c =
    let p = err_from_is_err_and c.from_residual-in_err-flush.result
    c.from_residual-in_err-flush.ensures.1 in
    let written = AppendsUpTo-whole (answered_in c.args.mode) _ _ _ _ _ _ c.in_ok-answer.ensures.ok
    (c.deref.ensures.value
    ∙ c.in_ok-push.ensures.items) c.in_ok-write_all.ensures.ok c.in_err-flush.ensures.bytes in
    rw (p.1, p.2.0) (p.2.1, written)
