use Rattle.std.proofs.Common.{◌≡◌, ◌≤◌, ◌∙◌, ◌-◌, ℕ, List, length, take, Some, ap, subst, arith}
use Rattle.std.specs.Str.Lossy.{utf8_valid_len}
use Rattle.cbor_decode.specs.Gives.{IsErrorOf}
use Rattle.cbor_decode.specs.declared.refusal.Refused.{Refused}
use Rattle.cbor_decode_as.specs.Strings.{IsNotUtf8}
use Rattle.cbor_decode_as.proofs.texts.Lending.{hand_step}
use Rattle.cbor_decode_as.proofs.texts.PassedStrings.{kept_bad, text_reported}
use Rattle.cbor_decode_as.proofs.string.definite_text.Goals as goal

pub returns-in-Err-clause-fault : goal.returns-in-Err-clause-fault
returns-in-Err-clause-fault g c =
    let s = g.R.Source.source c.args.decoder.now.source in
    let t = g.R.Source.source c.advance-in-Err.new.self in
    let n = c.args.n in
    let hand = g.R.Source.at_hand c.args.decoder.now.source in
    let same = c.ahead-ahead.ensures.bytes in
    let within : n ≤ length hand = omega (arith, ap length same, c.if-n-ahead.true) in
    let b = take n hand in
    let step = hand_step s t n hand within c.advance-in-Err.ensures.took c.advance-in-Err.ensures.counted in
    let front = take n c.ahead-ahead.result.now in
    let there : front ≡ b = ap (take n) same in
    let back = length front - c.valid_up_to.result in
    let counts : back ≡ length front - utf8_valid_len front = ap (λ (k : ℕ). length front - k) (c.valid_up_to.ensures ∙ c.in-Err.ensures.valid_len) in
    let kept = c.refuse_text.new.self.refusal in
    λ e is. text_reported g.R.Source.refusals s t (Some n) b e step
    (subst (λ (x : List ℕ). IsNotUtf8 x t.offset e) there
    (kept_bad kept front t.offset back e c.in-Err.ensures.cases.0 counts c.refuse_text.ensures.kept
    (subst (λ (r : Refused). IsErrorOf kept r e) c.refuse_text.ensures.refused is)))
