use Rattle.std.proofs.Common.{arith}
use Rattle.cbor_writer.proofs.SentBlocks.{none_left, passed_on, wrote_front}
use Rattle.cbor_writer.proofs.buffered_write.BufferedWrite.write_through.Goals as goal

pub returns : goal.returns
returns g c =
    let s = c.send_block.new.self in
    let none = none_left s.block.items s.sent s.held (omega (arith, c.in_ok-send_block.ensures.emptied)) in
    wrote_front _ _ c.args.piece.now c.send-answer.result.0 _ c.send-answer.ensures.all
    (passed_on _ _ _ _ _ c.in_ok-send_block.ensures.kept none c.send-answer.ensures.written)
