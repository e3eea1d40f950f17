use Rattle.std.proofs.Common.{take, sym, arith}
use Rattle.std.proofs.lemmas.List.{length-take-le}
use Rattle.std.proofs.lemmas.Result.{err_from_is_err_and}
use Rattle.cbor_writer.proofs.SentBlocks.{given_past, none_left, wrote_behind, wrote_front, wrote_none}
use Rattle.cbor_writer.proofs.blocks.Blocks.write_through.Goals as goal

pub returns-in_err-send_block-clause-given : goal.returns-in_err-send_block-clause-given
returns-in_err-send_block-clause-given g c =
    let p = err_from_is_err_and c.from_residual.result c.from_residual.ensures.1 in
    rw p.1 (wrote_none _ _ c.args.piece.now p.0 c.in_err-send_block.ensures.kept)

pub returns-clause-given : goal.returns-clause-given
returns-clause-given g c =
    let s = c.send_block.new.self in
    let n = c.send-count.result.0 in
    let piece = c.args.piece.now in
    let none = none_left s.block s.from s.held (omega (arith, c.in_ok-send_block.ensures.all)) in
    let part = sym (length-take-le n piece c.send-count.ensures.bound) in
    wrote_behind _ _ _ piece _ c.in_ok-send_block.ensures.kept
    (wrote_front _ _ piece n _ c.send-count.ensures.all
    (given_past _ _ s.sent n _ (take n piece) none part c.send-count.ensures.written))
