-- The tries before this one left the writer as it was.
use Rattle.std.specs.Io.KnownBytes.{Keeps}
use Rattle.cbor_io.proofs.write.io_write.write_some.Given as goal

abbrev pub invariant-tries : goal.invariant-tries
invariant-tries g l = Keeps (g.W.Write.contents l.initial.writer) (g.W.Write.contents l.writer)
