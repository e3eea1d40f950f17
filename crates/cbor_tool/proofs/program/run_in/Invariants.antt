-- Each line that was taken was answered.
use Rattle.std.proofs.Common.{◌-◌, ◌^◌}
use Rattle.cbor_tool.specs.RunSteps.{answered_in}
use Rattle.cbor_tool.proofs.Stops.{HasAnswered}
use Rattle.cbor_tool.proofs.program.run_in.Given as goal

abbrev pub invariant-lines : goal.invariant-lines
invariant-lines g l =
    HasAnswered (answered_in l.fn.mode) l.taken (g.R.Read.remaining l.initial.reader)
    (g.R.Read.remaining l.reader) (g.W.Write.contents l.initial.writer) (g.W.Write.contents l.writer)

abbrev pub decreases-lines : goal.decreases-lines
decreases-lines g l = 2 ^ 64 - l.taken
