use Rattle.std.proofs.Common.{refl}
use Rattle.cbor_model.specs.Reader.{to_break}
use Rattle.cbor_decode.specs.Heads.{end_of, first_at}
use Rattle.cbor_decode.proofs.SourceCalls.{another_step, last_step, next_stops, no_break}
use Rattle.cbor_decode.proofs.Decoder.next_to_break.Goals as goal

pub returns-in-Ok-Some-eq255-clause-read : goal.returns-in-Ok-Some-eq255-clause-read
returns-in-Ok-Some-eq255-clause-read g c =
    last_step g.R.Source.refusals _ _ _ c.in-Ok-Some-eq255.field-0-0 (end_of c.args.of) c.in-Ok-Some-eq255.field-0-0-test c.in-Ok-Some-eq255.field-0-is c.in-Ok-Some-eq255.ensures.does

pub returns-in-Ok-Some-clause-read : goal.returns-in-Ok-Some-clause-read
returns-in-Ok-Some-clause-read g c =
    another_step g.R.Source.refusals _ _ _ c.in-Ok-Some.first (end_of c.args.of) c.in-Ok-Some.first-test.1 c.in-Ok-Some.field-0-is c.in-Ok-Some.ensures.does

pub returns-in-Ok-None-clause-read : goal.returns-in-Ok-None-clause-read
returns-in-Ok-None-clause-read g c =
    rw c.refuse.ensures.source (no_break g.R.Source.refusals _ _ _ c.args.of (end_of c.args.of) c.end.result _ _ c.end.ensures refl c.refuse.ensures.refused c.refuse.ensures.kept c.in-Ok-None.field-0-is c.in-Ok-None.ensures.does)

pub returns-in-Err-clause-read : goal.returns-in-Err-clause-read
returns-in-Err-clause-read g c =
    rw c.keep.ensures.source (next_stops g.R.Source.refusals _ _ (λ l. first_at (end_of c.args.of) to_break) _ _ c.in-Err.refusal c.keep.ensures.refused c.keep.ensures.kept c.in-Err.ensures.does)
