-- What isn't left was taken.
use Rattle.std.proofs.Common.{◌-◌, ◌≤◌}
use Rattle.cbor_read.specs.Source.{Skipped}
use Rattle.cbor_buffered.specs.Block.{input_of_buffered}
use Rattle.cbor_buffered.proofs.buffered_read.BufferedReadSource.skip.Given as goal

abbrev pub invariant-pieces : goal.invariant-pieces
invariant-pieces g l = (l.left ≤ l.n)
    × Skipped (input_of_buffered g.R.Read.remaining l.initial.self)
    (input_of_buffered g.R.Read.remaining l.self) (l.n - l.left)

abbrev pub decreases-pieces : goal.decreases-pieces
decreases-pieces g l = l.left
