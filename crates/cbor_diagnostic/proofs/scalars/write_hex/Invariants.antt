use Rattle.std.proofs.Common.{take}
use Rattle.std.specs.Fmt.{WritesInCalls}
use Rattle.cbor_diagnostic.specs.Texts.{hex}
use Rattle.cbor_diagnostic.proofs.scalars.write_hex.Given as goal

abbrev pub invariant-loop-byte : goal.invariant-loop-byte
invariant-loop-byte g l = WritesInCalls g.W.Write.write_str_gives l.fn.out (hex (take l.byte-index l.bytes)) l.out
