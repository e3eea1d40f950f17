use Rattle.std.proofs.Common.{◌∙◌, List, ℕ, refl, sym, subst, take}
use Rattle.cbor_decode_as.specs.Identifiers.{texts, IsShortName}
use Rattle.cbor_decode_as.specs.Takes.{formats_of}
use Rattle.cbor_decode_as.proofs.enums.VariantsAtHand.{name_taken, name_begun}
use Rattle.cbor_decode_as.proofs.variant_at_hand.name_at_hand.Goals as goal

pub returns-clause-read : goal.returns-clause-read
returns-clause-read g c =
    let old = c.args.decoder.now in
    let names = texts c.args.names.now in
    let n = c.in_ok-index.n in
    let i = c.in_ok-index.index in
    let name = subst (λ (h : List ℕ). IsShortName names (take n h) i) c.ahead.ensures.bytes c.in_ok-index.ensures.name in
    name_taken (formats_of old.formats) names g.R.Source.refusals old.levels old.refusal (g.R.Source.source old.source) (g.R.Source.source c.advance.new.self) i (take n (g.R.Source.at_hand old.source)) name
    c.advance.ensures.took c.advance.ensures.counted (sym c.reads_shape.ensures ∙ c.if-not-reads_shape.false) old.levels refl

pub returns-clause-opened : goal.returns-clause-opened
returns-clause-opened g c =
    let old = c.args.decoder.now in
    let names = texts c.args.names.now in
    let n = c.in_ok-index.n in
    let i = c.in_ok-index.index in
    let name = subst (λ (h : List ℕ). IsShortName names (take n h) i) c.ahead.ensures.bytes c.in_ok-index.ensures.name in
    name_begun (formats_of old.formats) names g.R.Source.refusals old.levels old.refusal (g.R.Source.source old.source) (g.R.Source.source c.advance.new.self) i (take n (g.R.Source.at_hand old.source)) name
    c.advance.ensures.took c.advance.ensures.counted (sym c.reads_shape.ensures ∙ c.if-not-reads_shape.false) old.levels refl
