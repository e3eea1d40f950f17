use Rattle.std.proofs.Common.{◌-◌, length}
use Rattle.cbor_pushed.specs.Scanned.{InChunks}
use Rattle.cbor_pushed.proofs.chunks.pass_chunks.Given as goal

abbrev pub invariant-chunks : goal.invariant-chunks
invariant-chunks l = InChunks l.major l.at l.bytes

abbrev pub decreases-chunks : goal.decreases-chunks
decreases-chunks l = length l.bytes - l.at
