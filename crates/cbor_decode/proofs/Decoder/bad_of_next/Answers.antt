use Rattle.cbor_decode.proofs.SkippedStrings.{bad_step, bad_cut}
use Rattle.cbor_decode.proofs.Decoder.bad_of_next.Goals as goal

pub returns-in-Ok-clause-read : goal.returns-in-Ok-clause-read
returns-in-Ok-clause-read g c = bad_step _ _ c.args.n c.in-Ok.valid c.in-Ok.ensures.ok

pub returns-in-Err-clause-read : goal.returns-in-Err-clause-read
returns-in-Err-clause-read g c = rw c.keep.ensures.source (bad_cut g.R.Source.refusals _ _ c.args.n _ _ c.in-Err.refusal c.keep.ensures.refused c.keep.ensures.kept c.in-Err.ensures.err)
