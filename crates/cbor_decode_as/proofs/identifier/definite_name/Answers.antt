use Rattle.std.proofs.Common.{◌≤◌, List, ℕ, length, take, ap, subst, arith}
use Rattle.std.specs.Str.{IsUtf8}
use Rattle.cbor_decode_as.specs.Identifiers.{IsPlace, texts}
use Rattle.cbor_decode_as.proofs.texts.Lending.{hand_step}
use Rattle.std.proofs.Common.{Some, Err}
use Rattle.cbor_decode_as.specs.Identifiers.{NamesText}
use Rattle.cbor_decode_as.proofs.texts.NamedFaults.{bad_named}
use Rattle.cbor_decode_as.proofs.identifier.definite_name.Goals as goal

pub returns-in-Ok-clause-read : goal.returns-in-Ok-clause-read
returns-in-Ok-clause-read g c =
    let s = g.R.Source.source c.args.decoder.now.source in
    let t = g.R.Source.source c.advance.new.self in
    let n = c.args.n in
    let hand = g.R.Source.at_hand c.args.decoder.now.source in
    let same = c.ahead-ahead.ensures.bytes in
    let within : n ≤ length hand = omega (arith, ap length same, c.if-n-ahead.true) in
    let named : IsUtf8 (take n hand) × IsPlace (texts c.args.names.now) (take n hand) c.in-Ok.place =
    subst (λ (h : List ℕ). IsUtf8 (take n h) × IsPlace (texts c.args.names.now) (take n h) c.in-Ok.place) same c.in-Ok.ensures.place in
    (take n hand, named.0, named.1, hand_step s t n hand within c.advance.ensures.took c.advance.ensures.counted)

pub returns-in-Err-clause-fault : goal.returns-in-Err-clause-fault
returns-in-Err-clause-fault g c =
    let s = g.R.Source.source c.args.decoder.now.source in
    let t = g.R.Source.source c.advance.new.self in
    let n = c.args.n in
    let hand = g.R.Source.at_hand c.args.decoder.now.source in
    let same = c.ahead-ahead.ensures.bytes in
    let within : n ≤ length hand = omega (arith, ap length same, c.if-n-ahead.true) in
    let bad = subst (λ (h : List ℕ). NamesText (texts c.args.names.now) (take n h) (Err c.in-Err.back)) same c.in-Err.ensures.place in
    bad_named g.R.Source.refusals s t (Some n) (take n hand) c.in-Err.back c.refuse_text.new.self.refusal c.refuse_text.result (hand_step s t n hand within c.advance.ensures.took c.advance.ensures.counted) bad c.refuse_text.ensures.kept
