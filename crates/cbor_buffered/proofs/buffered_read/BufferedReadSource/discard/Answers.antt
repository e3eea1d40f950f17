use Rattle.std.proofs.Common.{arith}
use Rattle.cbor_buffered.specs.Block.{in_block}
use Rattle.cbor_buffered.proofs.BlockBytes.{advanced, count_ahead, first_taken}
use Rattle.cbor_buffered.proofs.buffered_read.BufferedReadSource.discard.Goals as goal

pub returns : goal.returns
returns g c =
    let s = c.args.self.now in
    let b = g.B.Block.held s.block in
    let whole = g.met.B.Block.whole s.block in
    first_taken _ _ (in_block s) (λ some. advanced (g.R.Read.remaining s.reader) b
    s.buffer.items s.taken 1 s.end s.filled s.start
    (omega (arith, some, count_ahead b s.taken s.end (omega (arith, whole)))) (omega arith)
    (omega (arith, whole)))
