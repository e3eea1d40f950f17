use Rattle.std.proofs.Common.{◌≡◌, Ok, Err, refl, sym, ap, subst}
use Rattle.cbor_decode.specs.Gives.{end_at}
use Rattle.cbor_read.specs.Source.{Input}
use Rattle.cbor_decode.specs.AtEnd.{EndStops}
use Rattle.cbor_decode.proofs.AtEnd.{end_stays, trailing_takes, source_takes}
use Rattle.cbor_decode.proofs.SourceCalls.{next_stops, end_step}
use Rattle.cbor_decode.proofs.Decoder.ended.Goals as goal

pub returns-in-Ok-None-clause-read : goal.returns-in-Ok-None-clause-read
returns-in-Ok-None-clause-read g c =
    end_step g.R.Source.refusals _ _ _ (λ l bs rest. end_at bs ≡ Ok (tt, rest)) (λ l. refl) c.in-Ok-None.field-0-is c.in-Ok-None.ensures.does

pub returns-in-Err-clause-read : goal.returns-in-Err-clause-read
returns-in-Err-clause-read g c =
    rw c.keep.ensures.source (next_stops g.R.Source.refusals _ _ (λ l. end_at) _ _ c.in-Err.refusal c.keep.ensures.refused c.keep.ensures.kept c.in-Err.ensures.does)

pub returns-in-Ok-Some-clause-takes : goal.returns-in-Ok-Some-clause-takes
returns-in-Ok-Some-clause-takes g c =
    subst (λ (t : Input). EndStops g.R.Source.refusals (g.R.Source.source c.args.self.now.source) t c.refuse.new.self.refusal (Err c.refuse.result)) (ap g.R.Source.source (sym c.refuse.ensures.source))
    (trailing_takes g.R.Source.refusals _ _ _ _ c.refuse.new.self.refusal _ c.refuse.ensures.refused c.refuse.ensures.kept c.in-Ok-Some.field-0-is c.in-Ok-Some.ensures.does)

pub returns-in-Ok-None-clause-takes : goal.returns-in-Ok-None-clause-takes
returns-in-Ok-None-clause-takes g c =
    end_stays g.R.Source.refusals _ _ _ c.in-Ok-None.field-0-is c.in-Ok-None.ensures.does

pub returns-in-Err-clause-takes : goal.returns-in-Err-clause-takes
returns-in-Err-clause-takes g c =
    subst (λ (t : Input). EndStops g.R.Source.refusals (g.R.Source.source c.args.self.now.source) t c.keep.new.self.refusal (Err c.keep.result)) (ap g.R.Source.source (sym c.keep.ensures.source))
    (source_takes g.R.Source.refusals _ _ _ _ c.in-Err.refusal c.keep.ensures.refused c.keep.ensures.kept c.in-Err.ensures.does)
