use Rattle.std.specs.Fmt.{WritesInCalls}
use Rattle.cbor_diagnostic.specs.Layout.{blanks}
use Rattle.cbor_diagnostic.proofs.layout.write_blanks.Given as goal

abbrev pub invariant-loop-step : goal.invariant-loop-step
invariant-loop-step g l = WritesInCalls g.W.Write.write_str_gives l.fn.out (blanks l.step) l.out
