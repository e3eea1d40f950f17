use Rattle.std.proofs.Common.{flat_map}
use Rattle.std.specs.Fmt.{WritesInCalls}
use Rattle.cbor_diagnostic.specs.Texts.{escaped}
use Rattle.cbor_diagnostic.proofs.scalars.write_chars.Given as goal

abbrev pub invariant-loop-c : goal.invariant-loop-c
invariant-loop-c g l = WritesInCalls g.W.Write.write_str_gives l.fn.out (flat_map escaped l.yielded) l.out
