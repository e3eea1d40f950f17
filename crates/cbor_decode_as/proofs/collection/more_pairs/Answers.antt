use Rattle.std.proofs.Common.{rules, ◌≡◌, true, Ok, subst}
use Rattle.std.proofs.lemmas.Result.{err_from_is_err_and}
use Rattle.cbor_decode.specs.Gives.{Step, Stopped}
use Rattle.cbor_decode.specs.declared.formats.Formats.{Formats}
use Rattle.cbor_decode_as.specs.MapAccesses.{key_front}
use Rattle.cbor_decode_as.specs.Takes.{formats_of}
use Rattle.cbor_decode_as.proofs.maps.NextKeys.{pair_comes, front_refused}
use Rattle.std.proofs.Common.{refl, Bool}
use Rattle.cbor_model.specs.Refusal.{end_in_map}
use Rattle.cbor_model.specs.Reader.{next_at}
use Rattle.cbor_decode.specs.Cursor.{behind_next}
use Rattle.cbor_decode.specs.Heads.{remaining_of}
use Rattle.cbor_decode.proofs.facts.Steps.{why_map, why_then}
use Rattle.cbor_decode_as.specs.MapAccesses.{pair_front}
use Rattle.cbor_decode_as.proofs.collection.more_pairs.Goals as goal

pub returns-clause-read : goal.returns-clause-read
returns-clause-read g c =
    let old = c.args.decoder.now in
    let s = g.R.Source.source old.source in
    let m = g.R.Source.source c.more.new.self.source in
    let t = g.R.Source.source c.key_begins.new.decoder.source in
    let more : c.in_ok-more.field-0 ≡ true = search rules in
    let front = subst (λ (f : Formats). Step m t (λ l bs rest. key_front (formats_of f) bs ≡ Ok (tt, rest))) c.more.ensures.settings.formats c.in_ok-key_begins.ensures.read in
    pair_comes s m (formats_of old.formats) c.args.remaining.now c.more.new.remaining c.in_ok-more.field-0 t more c.in_ok-more.ensures.read front

pub returns-in_err-key_begins-clause-read : goal.returns-in_err-key_begins-clause-read
returns-in_err-key_begins-clause-read g c =
    let passed = err_from_is_err_and c.from_residual-in_err-key_begins.result c.from_residual-in_err-key_begins.ensures.1 in
    let old = c.args.decoder.now in
    let new = c.key_begins.new.decoder in
    let s = g.R.Source.source old.source in
    let m = g.R.Source.source c.more.new.self.source in
    let r = c.in_err-key_begins.field-0.0 in
    let more : c.in_ok-more.field-0 ≡ true = search rules in
    let stopped = subst (λ (f : Formats). Stopped g.R.Source.refusals (λ l. key_front (formats_of f)) m (g.R.Source.source new.source) new.refusal r) c.more.ensures.settings.formats c.in_err-key_begins.ensures.read in
    rw (passed.1, passed.2) (λ e made. front_refused s m (formats_of old.formats) c.args.remaining.now c.more.new.remaining c.in_ok-more.field-0 g.R.Source.refusals new.refusal r e more c.in_ok-more.ensures.read made stopped)

-- ---- the fault

pub returns-in_err-more-clause-fault : goal.returns-in_err-more-clause-fault
returns-in_err-more-clause-fault g c =
    let passed = err_from_is_err_and c.from_residual.result c.from_residual.ensures.1 in
    let old = c.args.decoder.now in
    let s = g.R.Source.source old.source in
    let r = remaining_of c.args.remaining.now in
    rw (passed.1, passed.2) (why_map g.R.Source.refusals (λ l. next_at end_in_map r) (λ l. pair_front (formats_of old.formats) r) s c.more.new.self.refusal _ (λ l bs f is. rw is refl) c.in_err-more.ensures.read.reported)

pub returns-in_err-key_begins-clause-fault : goal.returns-in_err-key_begins-clause-fault
returns-in_err-key_begins-clause-fault g c =
    let passed = err_from_is_err_and c.from_residual-in_err-key_begins.result c.from_residual-in_err-key_begins.ensures.1 in
    let old = c.args.decoder.now in
    let new = c.key_begins.new.decoder in
    let s = g.R.Source.source old.source in
    let m = g.R.Source.source c.more.new.self.source in
    let r = c.in_err-key_begins.field-0.0 in
    let remaining = remaining_of c.args.remaining.now in
    let more : c.in_ok-more.field-0 ≡ true = search rules in
    let stopped = subst (λ (f : Formats). Stopped g.R.Source.refusals (λ l. key_front (formats_of f)) m (g.R.Source.source new.source) new.refusal r) c.more.ensures.settings.formats c.in_err-key_begins.ensures.read in
    let comes = subst (λ (b : Bool). Step s m (λ l bs rest. next_at end_in_map remaining bs ≡ Ok (behind_next c.more.new.remaining b, rest))) more c.in_ok-more.ensures.read in
    rw (passed.1, passed.2) (why_then g.R.Source.refusals (λ l. key_front (formats_of old.formats)) (λ l. pair_front (formats_of old.formats) remaining) s m new.refusal r (λ l bs rest. next_at end_in_map remaining bs ≡ Ok (behind_next c.more.new.remaining true, rest))
    (λ l bs mid f here stops. rw (here, stops) refl) comes stopped.reported)
