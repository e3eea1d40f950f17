use Rattle.std.proofs.Common.{subst}
use Rattle.cbor_pushed.specs.Scanned.{HasChunk}
use Rattle.cbor_pushed.proofs.Chunked.{chunk_more}
use Rattle.cbor_pushed.proofs.Lasts.{all_taken}
use Rattle.cbor_pushed.proofs.chunks.pass_chunks.Goals as goal

pub chunks-preserved : goal.chunks-preserved
chunks-preserved c =
    let bs = c.args.bytes.now in
    let at = c.chunks.at in
    let here = subst (HasChunk c.args.major c.in-Passed.n) (all_taken at bs) c.in-Passed.ensures in
    chunk_more c.args.major at c.in-Passed.n bs c.chunks.invariant here
