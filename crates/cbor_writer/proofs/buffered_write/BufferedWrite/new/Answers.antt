use Rattle.cbor_writer.proofs.SentBlocks.{nothing_held}
use Rattle.cbor_writer.proofs.buffered_write.BufferedWrite.new.Goals as goal

pub returns-clause-ok : goal.returns-clause-ok
returns-clause-ok g c = nothing_held (g.W.Write.contents c.args.writer)
