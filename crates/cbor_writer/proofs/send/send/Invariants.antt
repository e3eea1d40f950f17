-- What was sent is with the writer.
use Rattle.std.proofs.Common.{◌≤◌, length, take}
use Rattle.std.specs.Io.KnownBytes.{Appends}
use Rattle.cbor_writer.proofs.send.send.Given as goal

abbrev pub invariant-tries : goal.invariant-tries
invariant-tries g l = (l.sent ≤ length l.bytes)
    × Appends (g.W.Write.contents l.initial.writer) (g.W.Write.contents l.writer)
    (take l.sent l.bytes)
