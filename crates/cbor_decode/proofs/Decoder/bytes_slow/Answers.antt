use Rattle.cbor_decode.proofs.SourceCalls.{bytes_stop}
use Rattle.cbor_decode.proofs.Decoder.bytes_slow.Goals as goal

pub returns-in-Err-clause-read : goal.returns-in-Err-clause-read
returns-in-Err-clause-read g c =
    rw c.keep.ensures.source (bytes_stop g.R.Source.refusals _ _ c.args.n _ _ c.in-Err.refusal c.keep.ensures.refused c.keep.ensures.kept c.in-Err.ensures.err)
