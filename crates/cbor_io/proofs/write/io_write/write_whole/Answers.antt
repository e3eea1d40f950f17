use Rattle.cbor_io.proofs.WrittenFronts.{WritesFront-more}
use Rattle.cbor_io.proofs.write.io_write.write_whole.Goals as goal

pub bytes-preserved : goal.bytes-preserved
bytes-preserved g c = WritesFront-more _ _ _ _ _ _ c.bytes.invariant c.in_ok-count.ensures.written
