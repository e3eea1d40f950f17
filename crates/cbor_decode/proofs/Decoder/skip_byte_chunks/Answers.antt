use Rattle.cbor_decode.proofs.SkippedStrings.{byte_chunks_skipped}
use Rattle.cbor_decode.proofs.Decoder.skip_byte_chunks.Goals as goal

pub returns-clause-read : goal.returns-clause-read
returns-clause-read g c =
    let t = g.R.Source.source c.join.new.self.source in
    byte_chunks_skipped g.R.Source.refusals (λ u. t.buffer) _ _ _ _ c.join.ensures.read
