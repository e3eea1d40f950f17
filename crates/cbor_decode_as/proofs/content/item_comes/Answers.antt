use Rattle.cbor_model.specs.Reader.{to_break}
use Rattle.cbor_decode_as.proofs.heads.FirstByte.{front_step}
use Rattle.cbor_decode_as.proofs.enums.VariantParts.{none_left, break_comes}
use Rattle.cbor_decode_as.proofs.content.item_comes.Goals as goal

pub returns-in-Counted-eq0-clause-read : goal.returns-in-Counted-eq0-clause-read
returns-in-Counted-eq0-clause-read g c = rw (c.in-Counted-eq0.is, c.in-Counted-eq0.field-0-test) (none_left (g.R.Source.source c.args.decoder.now.source) to_break)

pub returns-in-Ok-Some-eq255-clause-read : goal.returns-in-Ok-Some-eq255-clause-read
returns-in-Ok-Some-eq255-clause-read g c =
    let h = c.in-Ok-Some-eq255 in
    let s = g.R.Source.source c.args.decoder.now.source in
    let t = g.R.Source.source c.peek.new.self in
    rw c.in-ToBreak.is (break_comes s t to_break h.field-0-0 h.field-0-0-test (front_step s t h.field-0 h.field-0-0 h.field-0-is h.ensures.stays h.ensures.front))
