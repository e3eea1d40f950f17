use Rattle.std.proofs.Common.{◌≡◌, ◌∙◌, ℕ, Option, Some, None, Ok, Err, refl, sym, subst, true, ap}
use Rattle.std.proofs.lemmas.Result.{MatchResult-at_err, MatchResult-at_ok}
use Rattle.cbor_read.specs.Source.{asks_for, part_bytes}
use Rattle.cbor_decode.specs.declared.head.Head.TheVariants.{Bytes}
use Rattle.cbor_decode_as.specs.Strings.{Lent, UnreadBy, UnreadOnly, asks_head, behind_string, content_at}
use Rattle.cbor_decode_as.specs.declared.borrowed.Unread.TheVariants.{Stopped}
use Rattle.cbor_decode_as.proofs.texts.Lending.{read_step}
use Rattle.cbor_decode_as.proofs.texts.MemoryAsked.{kept_only}
use Rattle.cbor_decode_as.proofs.texts.PassedLent.{bytes_by, bytes_cut, content_refuses, kept_no_key, kept_stop, source_no_key}
use Rattle.cbor_decode.proofs.facts.Steps.{some_then, took_same}
use Rattle.cbor_decode_as.proofs.borrowed.bytes_part.Goals as goal

pub returns-in-Ok : goal.returns-in-Ok
returns-in-Ok g c =
    let s = g.R.Source.source c.args.decoder.now.source in
    let t = g.R.Source.source c.read.follows.lender-at-none in
    let p = c.in-Ok.part in
    let n = c.in-Some.n in
    let took = MatchResult-at_ok _ _ p c.in-Ok.is c.read.follows.holds-at-none in
    let step = read_step s t n (part_bytes p) c.in-Ok.ensures.count took in
    let lent = subst (λ (k : Option ℕ). Lent g.R.Source.refusals g.R.Source.lends (Bytes k) s t (Ok p)) (sym c.in-Some.is) (step, c.in-Ok.ensures.long) in
    ((refl, λ _. tt, (refl, refl, rw c.given.ensures lent, rw c.given.ensures tt, rw c.given.ensures tt, rw c.given.ensures tt)), record { after_borrow = tt })

pub returns-in-Err : goal.returns-in-Err
returns-in-Err g c =
    let s = g.R.Source.source c.args.decoder.now.source in
    let t = g.R.Source.source c.read.follows.lender-at-none in
    let q = c.in-Err.refusal in
    let n = c.in-Some.n in
    let asks = asks_for g.R.Source.refusals g.R.Source.lends in
    let refused = MatchResult-at_err _ _ q c.in-Err.is c.read.follows.holds-at-none in
    let stops = bytes_cut g.R.Source.refusals s t n q refused in
    ((refl, λ _. tt, (refl, refl, subst (λ (k : Option ℕ). Lent g.R.Source.refusals g.R.Source.lends (Bytes k) s t (Err (Stopped q))) (sym c.in-Some.is) (content_refuses g.R.Source.refusals (Bytes (Some n)) s q stops refused.0.moved), source_no_key q refused.0.kind, subst (λ (k : Option ℕ). UnreadOnly (asks_head asks (Bytes k) ≡ true) (Stopped q)) (sym c.in-Some.is) c.in-Err.ensures.memory, subst (λ (k : Option ℕ). UnreadBy g.R.Source.refusals (behind_string (Bytes k)) s (Stopped q)) (sym c.in-Some.is) (bytes_by g.R.Source.refusals s (Some n) q stops))), record { after_borrow = tt })

pub returns-in-Err-join : goal.returns-in-Err-join
returns-in-Err-join g c =
    let s = g.R.Source.source c.args.decoder.now.source in
    let t = g.R.Source.source c.stopped.new.decoder.source in
    let q = c.stopped.result in
    let kept = c.join.new.self.refusal in
    let r = c.in-Err-join.refused in
    let is = c.stopped.ensures.kept in
    let e = c.in-Err-join.ensures in
    let asks = asks_for g.R.Source.refusals g.R.Source.lends in
    let stops = kept_stop g.R.Source.refusals (λ l. content_at l (Bytes None)) s kept r q is e.read.reported in
    ((refl, λ _. tt, (c.stopped.ensures.settings.levels ∙ e.settings.levels, c.stopped.ensures.settings.formats ∙ e.settings.formats, subst (λ (k : Option ℕ). Lent g.R.Source.refusals g.R.Source.lends (Bytes k) s t (Err (Stopped q))) (sym c.in-None.is) (content_refuses g.R.Source.refusals (Bytes None) s q stops (some_then _ _ _ e.read.took (took_same (ap g.R.Source.source c.stopped.ensures.source)))), kept_no_key kept r q is e.no_key, subst (λ (k : Option ℕ). UnreadOnly (asks_head asks (Bytes k) ≡ true) (Stopped q)) (sym c.in-None.is) (kept_only (asks.joined ≡ true) kept r q is e.memory), subst (λ (k : Option ℕ). UnreadBy g.R.Source.refusals (behind_string (Bytes k)) s (Stopped q)) (sym c.in-None.is) (bytes_by g.R.Source.refusals s None q stops))), record { after_borrow = tt })
