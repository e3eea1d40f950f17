use Rattle.std.proofs.Common.{◌+◌, ap, ◌∙◌, arith}
use Rattle.cbor_buffered.proofs.Refusals.{past_offsets, stays_same}
use Rattle.cbor_buffered.proofs.buffered_read.BufferedRead.fill.Goals as goal

pub returns-then-self-clause-err : goal.returns-then-self-clause-err
returns-then-self-clause-err g c =
    let s = c.args.self.now in
    let b = g.B.Block.held s.block in
    let whole = g.met.B.Block.whole s.block in
    past_offsets _ (g.R.Read.remaining s.reader) b s.buffer.items s.taken s.filled s.start
    c.at.result c.at.ensures.code c.at.ensures.offset
    (ap (λ m. s.start + m) c.requires ∙ s.limit c.if-self.true) (omega arith) (omega (arith, whole))
    (stays_same _)

pub returns-then-self-3-clause-err : goal.returns-then-self-3-clause-err
returns-then-self-3-clause-err g c =
    let t = c.read_block.new.self in
    let b = g.B.Block.held t.block in
    let whole = g.met.B.Block.whole t.block in
    past_offsets _ (g.R.Read.remaining t.reader) b t.buffer.items t.taken t.filled t.start
    c.at-then-self-3.result c.at-then-self-3.ensures.code c.at-then-self-3.ensures.offset
    (ap (λ m. t.start + m) c.if-self-2.true ∙ t.limit c.if-self-3.true) (omega arith)
    (omega (arith, whole)) c.in_ok-read_block.ensures.stays
