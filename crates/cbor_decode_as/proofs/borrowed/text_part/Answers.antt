use Rattle.std.proofs.Common.{◌≡◌, ◌+◌, ◌^◌, ℕ, Option, Some, None, Err, IfErr, ◌∙◌, arith, refl, sym, subst, ltb, true, ap}
use Rattle.std.proofs.lemmas.Result.{MatchResult-at_err, MatchResult-at_ok}
use Rattle.cbor_read.specs.Source.{asks_for, part_bytes}
use Rattle.cbor_decode.specs.declared.head.Head.TheVariants as head
use Rattle.cbor_decode_as.specs.Strings.{IsNoKey, LentText, UnreadBy, UnreadOnly, asks_head, behind_string, content_at}
use Rattle.cbor_decode_as.proofs.texts.Lending.{text_step, joined_step, text_lent, part_no_key}
use Rattle.cbor_decode_as.proofs.texts.MemoryAsked.{kept_only, part_only}
use Rattle.cbor_decode_as.proofs.texts.PassedLent.{content_refuses_text, kept_is, kept_no_key, kept_stop, part_reported, source_no_key, text_by, text_cut, text_too_long}
use Rattle.cbor_io.specs.declared.read_error.ReadErrorCode.TheVariants.{LengthOutOfRange}
use Rattle.cbor_decode.specs.Gives.{IsAt}
use Rattle.cbor_decode_as.specs.declared.borrowed.Unread.TheVariants.{Stopped}
use Rattle.cbor_decode.proofs.facts.Steps.{some_then, took_same}
use Rattle.cbor_decode_as.proofs.borrowed.text_part.Goals as goal

pub returns-in-Ok : goal.returns-in-Ok
returns-in-Ok g c =
    let s = g.R.Source.source c.args.decoder.now.source in
    let t = g.R.Source.source c.read.follows.lender-at-none in
    let p = c.in-Ok.part in
    let n = c.in-Some.n in
    let took = MatchResult-at_ok _ _ p c.in-Ok.is c.read.follows.holds-at-none in
    let room : ltb (s.offset + n) (2 ^ 64) ≡ true = sym c.if-not-has_room.ensures in
    let end : c.offset.result + n ≡ t.offset = omega (arith, c.offset.ensures, took.count, c.in-Ok.ensures.count) in
    let step = text_step s t n (part_bytes p) room c.in-Ok.ensures.count took in
    let lent = text_lent g.R.Source.refusals g.R.Source.lends (head.Text (Some n)) s t p (c.offset.result + n) c.text_of.result step c.in-Ok.ensures.long c.text_of.ensures in
    ((refl, λ _. tt, (refl, refl, subst (λ (k : Option ℕ). LentText g.R.Source.refusals g.R.Source.lends (head.Text k) s t c.text_of.result) (sym c.in-Some.is) lent, part_no_key p (c.offset.result + n) c.text_of.result c.text_of.ensures, part_only _ p (c.offset.result + n) c.text_of.result c.text_of.ensures, subst (λ (k : Option ℕ). IfErr c.text_of.result (UnreadBy g.R.Source.refusals (behind_string (head.Text k)) s)) (sym c.in-Some.is) (part_reported g.R.Source.refusals s t (Some n) p (c.offset.result + n) c.text_of.result step end c.text_of.ensures))), record { after_borrow = tt })

pub returns-in-Ok-join : goal.returns-in-Ok-join
returns-in-Ok-join g c =
    let s = g.R.Source.source c.args.decoder.now.source in
    let m = g.R.Source.source c.join.new.self.source in
    let t = g.R.Source.source c.take_buffer.follows.lender-at-none in
    let p = c.take_buffer.result in
    let end : c.offset-end.result ≡ t.offset = omega (arith, c.offset-end.ensures, c.take_buffer.follows.holds-at-none.count) in
    let step = joined_step s m t m.buffer (part_bytes p) c.take_buffer.ensures.bytes c.take_buffer.follows.holds-at-none c.in-Ok-join.ensures.read in
    let lent = text_lent g.R.Source.refusals g.R.Source.lends (head.Text None) s t p c.offset-end.result c.text_of-in-None.result step c.take_buffer.ensures.long c.text_of-in-None.ensures in
    ((refl, λ _. tt, (c.in-Ok-join.ensures.settings.levels, c.in-Ok-join.ensures.settings.formats, subst (λ (k : Option ℕ). LentText g.R.Source.refusals g.R.Source.lends (head.Text k) s t c.text_of-in-None.result) (sym c.in-None.is) lent, part_no_key p c.offset-end.result c.text_of-in-None.result c.text_of-in-None.ensures, part_only _ p c.offset-end.result c.text_of-in-None.result c.text_of-in-None.ensures, subst (λ (k : Option ℕ). IfErr c.text_of-in-None.result (UnreadBy g.R.Source.refusals (behind_string (head.Text k)) s)) (sym c.in-None.is) (part_reported g.R.Source.refusals s t None p c.offset-end.result c.text_of-in-None.result step end c.text_of-in-None.ensures))), record { after_borrow = tt })

pub returns-then-not-has_room : goal.returns-then-not-has_room
returns-then-not-has_room g c =
    let s = g.R.Source.source c.args.decoder.now.source in
    let t = g.R.Source.source c.stopped.new.decoder.source in
    let q = c.stopped.result in
    let kept = c.refuse-refused.new.self.refusal in
    let r = c.refuse-refused.result in
    let is = c.stopped.ensures.kept in
    let e = c.refuse-refused.ensures in
    let n = c.in-Some.n in
    let asks = asks_for g.R.Source.refusals g.R.Source.lends in
    let at : IsAt LengthOutOfRange s.offset q = kept_is kept r q (IsAt LengthOutOfRange s.offset) e.refused e.kept is in
    let stops = kept_stop g.R.Source.refusals (λ l. content_at l (head.Text (Some n))) s kept r q is (text_too_long g.R.Source.refusals s n kept r (sym c.if-not-has_room.ensures) e.refused e.kept) in
    let no_key : IsNoKey (Stopped q) = λ key. (let code = at.0 in cc) in
    let memory : UnreadOnly (asks_head asks (head.Text (Some n)) ≡ true) (Stopped q) = λ memory. absurd (let code = at.0 in cc) in
    ((refl, λ _. tt, (c.stopped.ensures.settings.levels ∙ e.settings.levels, c.stopped.ensures.settings.formats ∙ e.settings.formats, subst (λ (k : Option ℕ). LentText g.R.Source.refusals g.R.Source.lends (head.Text k) s t (Err (Stopped q))) (sym c.in-Some.is) (content_refuses_text g.R.Source.refusals (head.Text (Some n)) s q stops (took_same (ap g.R.Source.source (c.stopped.ensures.source ∙ e.source)))), no_key, subst (λ (k : Option ℕ). UnreadOnly (asks_head asks (head.Text k) ≡ true) (Stopped q)) (sym c.in-Some.is) memory, subst (λ (k : Option ℕ). UnreadBy g.R.Source.refusals (behind_string (head.Text k)) s (Stopped q)) (sym c.in-Some.is) (text_by g.R.Source.refusals s (Some n) q stops))), record { after_borrow = tt })

pub returns-in-Err : goal.returns-in-Err
returns-in-Err g c =
    let s = g.R.Source.source c.args.decoder.now.source in
    let t = g.R.Source.source c.read.follows.lender-at-none in
    let q = c.in-Err.refusal in
    let n = c.in-Some.n in
    let asks = asks_for g.R.Source.refusals g.R.Source.lends in
    let refused = MatchResult-at_err _ _ q c.in-Err.is c.read.follows.holds-at-none in
    let room : ltb (s.offset + n) (2 ^ 64) ≡ true = sym c.if-not-has_room.ensures in
    let stops = text_cut g.R.Source.refusals s t n q room refused in
    ((refl, λ _. tt, (refl, refl, subst (λ (k : Option ℕ). LentText g.R.Source.refusals g.R.Source.lends (head.Text k) s t (Err (Stopped q))) (sym c.in-Some.is) (content_refuses_text g.R.Source.refusals (head.Text (Some n)) s q stops refused.0.moved), source_no_key q refused.0.kind, subst (λ (k : Option ℕ). UnreadOnly (asks_head asks (head.Text k) ≡ true) (Stopped q)) (sym c.in-Some.is) c.in-Err.ensures.memory, subst (λ (k : Option ℕ). UnreadBy g.R.Source.refusals (behind_string (head.Text k)) s (Stopped q)) (sym c.in-Some.is) (text_by g.R.Source.refusals s (Some n) q stops))), record { after_borrow = tt })

pub returns-in-Err-join : goal.returns-in-Err-join
returns-in-Err-join g c =
    let s = g.R.Source.source c.args.decoder.now.source in
    let t = g.R.Source.source c.stopped-in-Err-join.new.decoder.source in
    let q = c.stopped-in-Err-join.result in
    let kept = c.join.new.self.refusal in
    let r = c.in-Err-join.refused in
    let is = c.stopped-in-Err-join.ensures.kept in
    let e = c.in-Err-join.ensures in
    let asks = asks_for g.R.Source.refusals g.R.Source.lends in
    let stops = kept_stop g.R.Source.refusals (λ l. content_at l (head.Text None)) s kept r q is e.read.reported in
    ((refl, λ _. tt, (c.stopped-in-Err-join.ensures.settings.levels ∙ e.settings.levels, c.stopped-in-Err-join.ensures.settings.formats ∙ e.settings.formats, subst (λ (k : Option ℕ). LentText g.R.Source.refusals g.R.Source.lends (head.Text k) s t (Err (Stopped q))) (sym c.in-None.is) (content_refuses_text g.R.Source.refusals (head.Text None) s q stops (some_then _ _ _ e.read.took (took_same (ap g.R.Source.source c.stopped-in-Err-join.ensures.source)))), kept_no_key kept r q is e.no_key, subst (λ (k : Option ℕ). UnreadOnly (asks_head asks (head.Text k) ≡ true) (Stopped q)) (sym c.in-None.is) (kept_only (asks.joined ≡ true) kept r q is e.memory), subst (λ (k : Option ℕ). UnreadBy g.R.Source.refusals (behind_string (head.Text k)) s (Stopped q)) (sym c.in-None.is) (text_by g.R.Source.refusals s None q stops))), record { after_borrow = tt })
