use Rattle.cbor_decode.specs.Heads.{end_of}
use Rattle.cbor_decode.proofs.Ended.{break_ends, other_stops, no_break_stops}
use Rattle.cbor_decode.proofs.Decoder.end_by_break.Goals as goal

pub returns-in-Ok-Some-eq255-clause-read : goal.returns-in-Ok-Some-eq255-clause-read
returns-in-Ok-Some-eq255-clause-read g c =
    let h = c.in-Ok-Some-eq255 in
    break_ends g.R.Source.refusals _ _ _ h.field-0-0 (end_of c.args.of) h.field-0-0-test h.field-0-is h.ensures.does

pub returns-in-Ok-Some-clause-read : goal.returns-in-Ok-Some-clause-read
returns-in-Ok-Some-clause-read g c =
    let h = c.in-Ok-Some in
    rw c.refuse.ensures.source (other_stops g.R.Source.refusals _ _ _ h.field-0-0 (end_of c.args.of) _ _ h.field-0-0-test.1 c.refuse.ensures.refused c.refuse.ensures.kept h.field-0-is h.ensures.does)

pub returns-in-Ok-None-clause-read : goal.returns-in-Ok-None-clause-read
returns-in-Ok-None-clause-read g c =
    let h = c.in-Ok-None in
    let r = c.refuse-in-Ok-None.ensures in
    rw r.source (no_break_stops g.R.Source.refusals _ _ _ c.args.of c.end.result _ _ c.end.ensures r.refused r.kept h.field-0-is h.ensures.does)
