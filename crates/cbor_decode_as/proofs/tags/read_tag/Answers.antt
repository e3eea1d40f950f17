use Rattle.cbor_decode_as.specs.Takes.{formats_of}
use Rattle.cbor_decode_as.specs.Tags.{tag_head_at}
use Rattle.cbor_decode_as.proofs.numbers.Scalars.{reported_by}
use Rattle.cbor_decode_as.proofs.heads.TagHeads.{tag_is}
use Rattle.cbor_decode_as.proofs.tags.read_tag.Goals as goal

pub returns-in-Ok-clause-item : goal.returns-in-Ok-clause-item
returns-in-Ok-clause-item g c =
    let d = c.args.decoder.now in
    tag_is (formats_of d.formats) d.levels _ _ c.in-Ok.tag c.in-Ok.ensures.read

pub returns-in-Err-clause-read : goal.returns-in-Err-clause-read
returns-in-Err-clause-read g c =
    let d = c.args.decoder.now in
    rw c.error.ensures.source (c.in-Err.ensures.read.took, reported_by g.R.Source.refusals (λ l. tag_head_at d.levels) (g.R.Source.source d.source) c.take_tag.new.decoder.refusal c.in-Err.refused c.error.result c.error.ensures.reports c.in-Err.ensures.read)
