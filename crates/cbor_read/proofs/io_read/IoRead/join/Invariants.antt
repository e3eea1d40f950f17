-- What isn't left is in the buffer.
use Rattle.std.proofs.Common.{◌≡◌, ◌-◌, ◌≤◌, length}
use Rattle.cbor_read.specs.Source.{Buffered}
use Rattle.cbor_read.specs.Sources.{AsksFor, input_of_reader}
use Rattle.cbor_read.proofs.io_read.IoRead.join.Given as goal

abbrev pub invariant-pieces : goal.invariant-pieces
invariant-pieces g l = (length l.piece ≡ length l.initial.piece) × (l.left ≤ l.n)
    × Buffered (input_of_reader g.R.Read.remaining l.initial.self)
    (input_of_reader g.R.Read.remaining l.self) (l.n - l.left)
    × AsksFor l.n l.initial.self l.self

abbrev pub decreases-pieces : goal.decreases-pieces
decreases-pieces g l = l.left
