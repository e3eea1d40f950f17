use Rattle.std.proofs.Common.{rules, ◌≡◌, ◌≤◌, ◌<◌, ◌+◌, ◌∷◌, length, take, sym, subst}
use Rattle.std.specs.String.{string_bytes}
use Rattle.std.specs.Str.{IsUtf8}
use Rattle.std.proofs.lemmas.Str.{IsUtf8-string_bytes}
use Rattle.cbor_model.specs.Readable.{IsString, IsText}
use Rattle.cbor_read.specs.Source.{TookKept}
use Rattle.cbor_decode_as.specs.Takes.{formats_of}
use Rattle.cbor_decode_as.proofs.texts.ShortTexts.{head_and_content, short_text_taken}
use Rattle.cbor_decode_as.proofs.string.text_at_hand.Goals as goal

pub returns-clause-read : goal.returns-clause-read
returns-clause-read g c =
    let old = c.args.decoder.now in
    let s = g.R.Source.source old.source in
    let t = g.R.Source.source c.advance.new.self in
    let hand = g.R.Source.at_hand old.source in
    let behind = c.in_ok-head.behind.now in
    let n = c.from-n.result in
    let x = c.in_ok-text-2.text in
    let short : n < 24 = search rules in
    let enough : n ≤ length behind = search rules in
    let parts : hand ≡ (0x60 + n) ∷ behind = search rules in
    let same : string_bytes x ≡ take n behind = search rules in
    let utf8 = subst IsUtf8 same (IsUtf8-string_bytes x) in
    let front = head_and_content hand behind (0x60 + n) n parts in
    short_text_taken g.R.Source.refusals (formats_of old.formats) (λ r s. IsText r (string_bytes s)) old.levels old.refusal s t n behind x short enough
    (λ r is. (subst (IsString r) (sym same) is, IsUtf8-string_bytes x)) utf8 (subst (TookKept s t) front c.advance.ensures.took) c.advance.ensures.counted
