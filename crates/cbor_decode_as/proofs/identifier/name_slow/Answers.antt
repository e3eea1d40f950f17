use Rattle.std.proofs.Common.{◌≡◌, ◌+◌, ◌^◌, true, ltb, sym}
use Rattle.std.proofs.lemmas.Result.{MatchResult-at_ok}
use Rattle.cbor_read.specs.Source.{part_bytes}
use Rattle.cbor_decode_as.proofs.texts.Lending.{text_step}
use Rattle.std.proofs.Common.{Some}
use Rattle.std.proofs.lemmas.Result.{MatchResult-at_err}
use Rattle.cbor_decode.specs.declared.head.Head.TheVariants as head
use Rattle.cbor_decode_as.specs.Strings.{behind_string}
use Rattle.cbor_decode_as.proofs.texts.NamedFaults.{bad_named, kept_refuses, kept_why}
use Rattle.cbor_decode_as.proofs.texts.PassedLent.{content_refuses_text, text_by, text_cut, text_too_long}
use Rattle.cbor_decode_as.proofs.texts.PassedStrings.{text_unread}
use Rattle.cbor_decode_as.proofs.identifier.name_slow.Goals as goal

pub returns-in-Ok-named-clause-read : goal.returns-in-Ok-named-clause-read
returns-in-Ok-named-clause-read g c =
    let s = g.R.Source.source c.args.decoder.now.source in
    let t = g.R.Source.source c.read.follows.lender-at-none in
    let p = c.in-Ok.part in
    let n = c.args.n in
    let took = MatchResult-at_ok _ _ p c.in-Ok.is c.read.follows.holds-at-none in
    let room : ltb (s.offset + n) (2 ^ 64) ≡ true = sym c.if-not-has_room.ensures in
    let named = c.in-Ok-named.ensures.place in
    (part_bytes p, named.0, named.1, text_step s t n (part_bytes p) room c.in-Ok.ensures.count took)

pub returns-then-not-has_room-clause-fault : goal.returns-then-not-has_room-clause-fault
returns-then-not-has_room-clause-fault g c =
    let s = g.R.Source.source c.args.decoder.now.source in
    let e = c.refuse.ensures in
    let kept = c.refuse.new.self.refusal in
    text_unread g.R.Source.refusals s (Some c.args.n) kept c.refuse.result (text_too_long g.R.Source.refusals s c.args.n kept c.refuse.result (sym c.if-not-has_room.ensures) e.refused e.kept)

pub returns-in-Err-clause-read : goal.returns-in-Err-clause-read
returns-in-Err-clause-read g c = λ e made.
    let s = g.R.Source.source c.args.decoder.now.source in
    let t = g.R.Source.source c.read.follows.lender-at-none in
    let q = c.in-Err.refusal in
    let n = c.args.n in
    let refused = MatchResult-at_err _ _ q c.in-Err.is c.read.follows.holds-at-none in
    let room : ltb (s.offset + n) (2 ^ 64) ≡ true = sym c.if-not-has_room.ensures in
    let none = content_refuses_text {t = t} g.R.Source.refusals (head.Text (Some n)) s q (text_cut g.R.Source.refusals s t n q room refused) refused.0.moved in
    rw c.keep.ensures.source (kept_refuses g.R.Source.refusals s c.keep.new.self.refusal q c.keep.result e _ c.keep.ensures.refused c.keep.ensures.kept made none)

pub returns-in-Err-clause-fault : goal.returns-in-Err-clause-fault
returns-in-Err-clause-fault g c =
    let s = g.R.Source.source c.args.decoder.now.source in
    let t = g.R.Source.source c.read.follows.lender-at-none in
    let q = c.in-Err.refusal in
    let n = c.args.n in
    let refused = MatchResult-at_err _ _ q c.in-Err.is c.read.follows.holds-at-none in
    let room : ltb (s.offset + n) (2 ^ 64) ≡ true = sym c.if-not-has_room.ensures in
    kept_why g.R.Source.refusals (behind_string (head.Text (Some n))) s c.keep.new.self.refusal q c.keep.result c.keep.ensures.kept (text_by g.R.Source.refusals s (Some n) q (text_cut g.R.Source.refusals s t n q room refused))

pub returns-in-Err-named-clause-fault : goal.returns-in-Err-named-clause-fault
returns-in-Err-named-clause-fault g c =
    let s = g.R.Source.source c.args.decoder.now.source in
    let t = g.R.Source.source c.read.follows.lender-at-none in
    let p = c.in-Ok.part in
    let n = c.args.n in
    let took = MatchResult-at_ok _ _ p c.in-Ok.is c.read.follows.holds-at-none in
    let room : ltb (s.offset + n) (2 ^ 64) ≡ true = sym c.if-not-has_room.ensures in
    bad_named g.R.Source.refusals s t (Some n) (part_bytes p) c.in-Err-named.back c.refuse_text.new.self.refusal c.refuse_text.result (text_step s t n (part_bytes p) room c.in-Ok.ensures.count took) c.in-Err-named.ensures.place c.refuse_text.ensures.kept
