use Rattle.std.proofs.Common.{rules, ◌≡◌, ◌∙◌, sym, ◌+◌, ◌-◌, ◌∷◌, take, subst, true, arith}
use Rattle.cbor_model.specs.Formats.{may_begin_key}
use Rattle.cbor_read.specs.Source.{TookKept}
use Rattle.cbor_decode_as.specs.Identifiers.{texts}
use Rattle.cbor_decode_as.specs.Takes.{formats_of}
use Rattle.cbor_decode_as.proofs.enums.VariantsAtHand.{may_take, pair_taken, pair_begun}
use Rattle.cbor_decode_as.proofs.texts.ShortTexts.{head_and_content}
use Rattle.cbor_decode_as.proofs.variant_at_hand.pair_at_hand.Goals as goal

pub returns-clause-read : goal.returns-clause-read
returns-clause-read g c =
    let old = c.args.decoder.now in
    let f = formats_of old.formats in
    let s = g.R.Source.source old.source in
    let t = g.R.Source.source c.advance.new.self in
    let hand = g.R.Source.at_hand old.source in
    let key = c.in_ok-head.key.now in
    let n = c.in_ok-index.n in
    let pair : hand ≡ 0xa1 ∷ key = search rules in
    let first : key ≡ c.in_ok-first.first.now ∷ c.in_ok-first.field-0-1.now = search rules in
    let allowed : may_begin_key f c.in_ok-first.first.now ≡ true = search rules in
    let one : old.levels ≡ (old.levels - 1) + 1 = omega (arith, c.if-decoder-eq0.false) in
    let took = subst (TookKept s t) (head_and_content hand key 0xa1 n pair) c.advance.ensures.took in
    pair_taken f (texts c.args.names.now) g.R.Source.refusals old.levels (old.levels - 1) old.refusal s t c.in_ok-index.index (take n key) c.in_ok-index.ensures.name took
    c.advance.ensures.counted (sym c.reads_shape.ensures ∙ c.if-not-reads_shape.false) (may_take f n key c.in_ok-first.field-0-1.now c.in_ok-first.first.now first c.in_ok-index.ensures.some allowed) one

pub returns-clause-opened : goal.returns-clause-opened
returns-clause-opened g c =
    let old = c.args.decoder.now in
    let f = formats_of old.formats in
    let s = g.R.Source.source old.source in
    let t = g.R.Source.source c.advance.new.self in
    let hand = g.R.Source.at_hand old.source in
    let key = c.in_ok-head.key.now in
    let n = c.in_ok-index.n in
    let pair : hand ≡ 0xa1 ∷ key = search rules in
    let first : key ≡ c.in_ok-first.first.now ∷ c.in_ok-first.field-0-1.now = search rules in
    let allowed : may_begin_key f c.in_ok-first.first.now ≡ true = search rules in
    let one : old.levels ≡ (old.levels - 1) + 1 = omega (arith, c.if-decoder-eq0.false) in
    let took = subst (TookKept s t) (head_and_content hand key 0xa1 n pair) c.advance.ensures.took in
    pair_begun f (texts c.args.names.now) g.R.Source.refusals old.levels (old.levels - 1) old.refusal s t c.in_ok-index.index (take n key) c.in_ok-index.ensures.name took
    c.advance.ensures.counted (sym c.reads_shape.ensures ∙ c.if-not-reads_shape.false) (may_take f n key c.in_ok-first.field-0-1.now c.in_ok-first.first.now first c.in_ok-index.ensures.some allowed) one
