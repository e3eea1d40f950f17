-- What was filled was taken.
use Rattle.std.proofs.Common.{◌≡◌, ◌-◌, ◌≤◌, length, take}
use Rattle.cbor_read.specs.Source.{TookKept}
use Rattle.cbor_buffered.specs.Block.{input_of_buffered}
use Rattle.cbor_buffered.proofs.buffered_read.BufferedReadSource.read_into.Given as goal

abbrev pub invariant-pieces : goal.invariant-pieces
invariant-pieces g l = (length l.buf ≡ length l.initial.buf) × (l.filled ≤ length l.buf)
    × TookKept (input_of_buffered g.R.Read.remaining l.initial.self)
    (input_of_buffered g.R.Read.remaining l.self) (take l.filled l.buf)

abbrev pub decreases-pieces : goal.decreases-pieces
decreases-pieces g l = length l.initial.buf - l.filled
