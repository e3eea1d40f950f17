use Rattle.cbor_decode.specs.Heads.{end_of}
use Rattle.cbor_decode.proofs.Peeked.{break_taken, part_stands, no_part}
use Rattle.cbor_decode.proofs.Decoder.more_to_break.Goals as goal

pub returns-in-Ok-Some-eq255-clause-read : goal.returns-in-Ok-Some-eq255-clause-read
returns-in-Ok-Some-eq255-clause-read g c =
    let h = c.in-Ok-Some-eq255 in
    break_taken _ _ _ _ h.field-0 h.field-0-0 (end_of c.args.of) h.field-0-0-test h.ensures.peeked h.field-0-is h.ensures.stays c.discard.ensures

pub returns-in-Ok-Some-clause-read : goal.returns-in-Ok-Some-clause-read
returns-in-Ok-Some-clause-read g c =
    let h = c.in-Ok-Some in
    part_stands _ _ h.field-0 h.field-0-0 (end_of c.args.of) h.field-0-0-test.1 h.field-0-is h.ensures.stays h.ensures.front

pub returns-in-Ok-None-clause-read : goal.returns-in-Ok-None-clause-read
returns-in-Ok-None-clause-read g c =
    let h = c.in-Ok-None in
    rw c.refuse.ensures.source (no_part g.R.Source.refusals _ _ h.field-0 c.args.of c.end.result _ _ c.end.ensures c.refuse.ensures.refused c.refuse.ensures.kept h.field-0-is h.ensures.stays h.ensures.front)
