use Rattle.std.proofs.Common.{◌-◌, take, arith}
use Rattle.cbor_buffered.specs.Block.{in_block}
use Rattle.cbor_buffered.proofs.BlockBytes.{taken_length}
use Rattle.cbor_buffered.proofs.TakenInTurn.{skipped_more}
use Rattle.cbor_buffered.proofs.buffered_read.BufferedReadSource.skip.Goals as goal

pub pieces-preserved : goal.pieces-preserved
pieces-preserved g c =
    let u = c.wanted.new.self in
    let n = c.in_ok-count.count in
    let b = g.B.Block.held u.block in
    let whole = g.met.B.Block.whole u.block in
    let len = taken_length b u.taken n u.end c.in_ok-count.ensures.count.2
    (omega (arith, whole)) in (
      omega arith,
      skipped_more _ _ _ _ (c.args.n - c.pieces.left) n
          (c.args.n - (c.pieces.left - n)) (take n (in_block u))
          (omega (arith, c.in_ok-count.ensures.count, c.pieces.invariant.0)) len c.pieces.invariant.1
          c.in_ok-count.ensures.stays c.advance.ensures.took,
    )
