-- Nothing is taken, and each call of the reader fills more of the block.
use Rattle.std.proofs.Common.{◌-◌}
use Rattle.cbor_read.specs.Source.{Stays}
use Rattle.cbor_buffered.specs.Block.{input_of_buffered}
use Rattle.cbor_buffered.proofs.buffered_read.BufferedReadSource.gather.Given as goal

abbrev pub invariant-calls : goal.invariant-calls
invariant-calls g l =
    Stays (input_of_buffered g.R.Read.remaining l.initial.self)
    (input_of_buffered g.R.Read.remaining l.self)

abbrev pub decreases-calls : goal.decreases-calls
decreases-calls g l = g.B.Block.size - l.self.filled
