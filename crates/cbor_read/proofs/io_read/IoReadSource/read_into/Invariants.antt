-- What was filled was taken.
use Rattle.std.proofs.Common.{◌≡◌, ◌-◌, ◌≤◌, length, take}
use Rattle.cbor_read.specs.Source.{TookKept}
use Rattle.cbor_read.specs.Sources.{AsksFor, input_of_reader}
use Rattle.cbor_read.proofs.io_read.IoReadSource.read_into.Given as goal

abbrev pub invariant-pieces : goal.invariant-pieces
invariant-pieces g l = (length l.buf ≡ length l.initial.buf) × (l.filled ≤ length l.buf)
    × TookKept (input_of_reader g.R.Read.remaining l.initial.self)
    (input_of_reader g.R.Read.remaining l.self) (take l.filled l.buf)
    × AsksFor (length l.initial.buf) l.initial.self l.self

abbrev pub decreases-pieces : goal.decreases-pieces
decreases-pieces g l = length l.initial.buf - l.filled
