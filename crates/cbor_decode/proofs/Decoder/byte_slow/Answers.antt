use Rattle.std.proofs.Common.{◌≡◌, Ok, refl}
use Rattle.cbor_model.specs.Refusal.{end_in_value}
use Rattle.cbor_model.specs.Reader.{byte_at}
use Rattle.cbor_io.specs.declared.read_error.ReadErrorCode.TheVariants.{EofWhileParsingValue}
use Rattle.cbor_decode.proofs.SourceCalls.{next_step, next_stops, end_stops}
use Rattle.cbor_decode.proofs.Decoder.byte_slow.Goals as goal

pub returns-in-Ok-Some-clause-read : goal.returns-in-Ok-Some-clause-read
unfolding byte_at
returns-in-Ok-Some-clause-read g c =
    next_step g.R.Source.refusals _ _ _ c.in-Ok-Some.b (λ l bs rest. byte_at bs ≡ Ok (c.in-Ok-Some.b, rest)) (λ l rest. refl) c.in-Ok-Some.field-0-is c.in-Ok-Some.ensures.does

pub returns-in-Ok-None-clause-read : goal.returns-in-Ok-None-clause-read
unfolding byte_at
returns-in-Ok-None-clause-read g c =
    rw c.refuse.ensures.source (end_stops g.R.Source.refusals _ _ _ (λ l. byte_at) _ _ EofWhileParsingValue end_in_value (λ at end r h. h) (λ l. refl) c.refuse.ensures.refused c.refuse.ensures.kept c.in-Ok-None.field-0-is c.in-Ok-None.ensures.does)

pub returns-in-Err-clause-read : goal.returns-in-Err-clause-read
returns-in-Err-clause-read g c =
    rw c.keep.ensures.source (next_stops g.R.Source.refusals _ _ (λ l. byte_at) _ _ c.in-Err.refusal c.keep.ensures.refused c.keep.ensures.kept c.in-Err.ensures.does)
