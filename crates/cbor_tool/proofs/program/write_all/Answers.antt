use Rattle.cbor_tool.proofs.Writing.{WritesFront-more}
use Rattle.cbor_tool.proofs.program.write_all.Goals as goal

pub bytes-preserved : goal.bytes-preserved
bytes-preserved g c = WritesFront-more _ _ _ _ _ _ c.bytes.invariant c.in_ok-count.ensures.written
