-- What isn't left was written.
use Rattle.std.proofs.Common.{length}
use Rattle.cbor_io.proofs.WrittenFronts.{WritesFront}
use Rattle.cbor_io.proofs.write.io_write.write_whole.Given as goal

abbrev pub invariant-bytes : goal.invariant-bytes
invariant-bytes g l =
    WritesFront l.fn.bytes l.rest (g.W.Write.contents l.initial.writer)
    (g.W.Write.contents l.writer)

abbrev pub decreases-bytes : goal.decreases-bytes
decreases-bytes g l = length l.rest
