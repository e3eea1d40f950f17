use Rattle.std.proofs.Common.{◌≢◌, [], arith}
use Rattle.std.proofs.lemmas.Result.{err_from_is_err_and}
use Rattle.cbor_tool.specs.RunSteps.{answered_in}
use Rattle.cbor_tool.proofs.Stops.{not_empty, empty, HasAnswered-none, HasAnswered-line}
use Rattle.cbor_tool.proofs.Stops.{AppendsAnswers-all, AppendsAnswers-whole, IsStopped-reading}
use Rattle.cbor_tool.proofs.Stops.{IsStopped-at_line, IsStopped-at_last}
use Rattle.cbor_tool.proofs.program.run_in.Goals as goal
use Rattle.cbor_tool.proofs.program.run_in.Goals.{then-not-is_empty+in_ok-write_answer-2}
use Rattle.cbor_tool.proofs.program.run_in.Goals.{else-not-is_empty}

pub lines-init : goal.lines-init
lines-init g c = HasAnswered-none (answered_in c.args.mode) _ _

pub returns-in_err-read_line-clause-stopped : goal.returns-in_err-read_line-clause-stopped
returns-in_err-read_line-clause-stopped g c =
    let p = err_from_is_err_and c.from_residual.result c.from_residual.ensures.1 in
    rw (p.1, p.2) (IsStopped-reading (answered_in c.args.mode) c.in_err-read_line.field-0.0 _ _ _ _ _ _ c.lines.invariant c.in_err-read_line.ensures.err)

pub lines-smaller : goal.lines-smaller
lines-smaller g c = let next = rw c.in-Newline.is at c.in_ok-read_line.ensures.ok in
    omega (arith, next.1, next.2)

pub lines-preserved : goal.lines-preserved
lines-preserved g c =
    let next = rw c.in-Newline.is at c.in_ok-read_line.ensures.ok in
    HasAnswered-line (answered_in c.args.mode) _ _ _ _ _ _ _ _ _ c.lines.invariant next
    (rw c.deref.ensures.value at c.in_ok-write_answer.ensures.ok)

pub returns-in_err-write_answer-clause-stopped : goal.returns-in_err-write_answer-clause-stopped
returns-in_err-write_answer-clause-stopped g c =
    let next = rw c.in-Newline.is at c.in_ok-read_line.ensures.ok in
    let p = err_from_is_err_and c.from_residual-in_err-write_answer.result
    c.from_residual-in_err-write_answer.ensures.1 in
    rw (p.1, p.2) (IsStopped-at_line (answered_in c.args.mode) c.in_err-write_answer.field-0.0 _ _ _ _ _ _ _
    (g.W.Write.contents c.lines.writer) _ c.lines.invariant next
    (rw c.deref.ensures.value at c.in_err-write_answer.ensures.err))

pub returns-in_err-write_answer-2-clause-stopped : goal.returns-in_err-write_answer-2-clause-stopped
returns-in_err-write_answer-2-clause-stopped g c =
    let next = rw c.in_default.is at c.in_ok-read_line.ensures.ok in
    let begun : c.read_line.new.line.items ≢ [] =
    not_empty _ _ _ c.read_line.new.line.ok.0 c.is_empty.ensures c.if-not-is_empty.true in
    let p = err_from_is_err_and c.from_residual-in_err-write_answer-2.result
    c.from_residual-in_err-write_answer-2.ensures.1 in
    rw (p.1, p.2) (IsStopped-at_last (answered_in c.args.mode) c.in_err-write_answer-2.field-0.0 _ _ c.read_line.new.taken _ _ _ _
    (g.W.Write.contents c.lines.writer) _ c.lines.invariant next begun
    (rw c.deref-then-not-is_empty.ensures.value at c.in_err-write_answer-2.ensures.err))

pub returns-clause-answers : goal.returns-clause-answers
returns-clause-answers g c =
    let next = rw c.in_default.is at c.in_ok-read_line.ensures.ok in
    elim c.if-not-is_empty.branch [
      | then-not-is_empty+in_ok-write_answer-2 w ↦
          let begun : c.read_line.new.line.items ≢ [] =
          not_empty _ _ _ c.read_line.new.line.ok.0 c.is_empty.ensures w.if-not-is_empty.true in
          rw w.writer-is (AppendsAnswers-all (answered_in c.args.mode) _ _ c.read_line.new.taken _ _ _ _ _ _ c.lines.invariant
          next begun (rw w.deref-then-not-is_empty.ensures.value
          at w.in_ok-write_answer-2.ensures.ok))
      | else-not-is_empty w ↦
          let none = empty _ _ _ c.read_line.new.line.ok.0 c.is_empty.ensures
          w.if-not-is_empty.false in
          rw w.writer-is (AppendsAnswers-whole (answered_in c.args.mode) _ _ c.read_line.new.taken _ _ _ _ _ c.lines.invariant
          next none)
    ]
