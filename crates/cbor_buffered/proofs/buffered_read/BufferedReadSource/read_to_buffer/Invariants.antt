-- What isn't left is in the buffer.
use Rattle.std.proofs.Common.{◌-◌, ◌≤◌}
use Rattle.cbor_read.specs.Source.{Buffered}
use Rattle.cbor_buffered.specs.Block.{input_of_buffered}
use Rattle.cbor_buffered.proofs.buffered_read.BufferedReadSource.read_to_buffer.Given as goal

abbrev pub invariant-pieces : goal.invariant-pieces
invariant-pieces g l = (l.left ≤ l.n)
    × Buffered (input_of_buffered g.R.Read.remaining l.initial.self)
    (input_of_buffered g.R.Read.remaining l.self) (l.n - l.left)

abbrev pub decreases-pieces : goal.decreases-pieces
decreases-pieces g l = l.left
