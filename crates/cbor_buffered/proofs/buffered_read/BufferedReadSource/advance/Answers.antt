use Rattle.std.proofs.Common.{◌+◌, ◌≤◌, arith}
use Rattle.cbor_buffered.proofs.BlockBytes.{advanced, count_ahead}
use Rattle.cbor_buffered.proofs.buffered_read.BufferedReadSource.advance.Goals as goal

pub returns-clause-took : goal.returns-clause-took
returns-clause-took g c =
    let s = c.args.self.now in
    let n = c.args.n in
    let b = g.B.Block.held s.block in
    let whole = g.met.B.Block.whole s.block in
    let within : s.taken + n ≤ s.end =
    omega (arith, c.requires, count_ahead b s.taken s.end (omega (arith, whole))) in
    advanced (g.R.Read.remaining s.reader) b s.buffer.items s.taken n s.end s.filled
    s.start within (omega arith) (omega (arith, whole))
