use Rattle.std.proofs.Common.{◌∙◌, ap, sym, subst}
use Rattle.cbor_model.specs.Formats.{Formats}
use Rattle.cbor_decode.specs.Gives.{Gives}
use Rattle.cbor_decode_as.specs.MapAccesses.{key_front}
use Rattle.cbor_decode_as.specs.Takes.{formats_of}
use Rattle.cbor_decode_as.proofs.enums.VariantMaps.{pair_headed}
use Rattle.cbor_decode_as.proofs.variant.pair_head.Goals as goal

pub returns-clause-read : goal.returns-clause-read
returns-clause-read g c =
    let old = c.args.decoder.now in
    let byte = c.byte.new.self in
    let inner = c.enter.new.self in
    let new = c.key_begins.new.decoder in
    let t = g.R.Source.source new.source in
    let b = g.R.Source.source inner.source in
    let formats = ap formats_of (c.in_ok-enter.ensures.formats ∙ c.in_ok-byte.ensures.settings.formats) in
    let key = subst (λ (f : Formats). Gives {X = Unit {0}} {A = Unit {0}} g.R.Source.refusals (λ u. u) (λ l. key_front f) b t new.refusal c.key_begins.result) formats c.key_begins.ensures.read in
    pair_headed g.R.Source.refusals (formats_of old.formats) (g.R.Source.source old.source) (g.R.Source.source byte.source) b t old.levels inner.levels c.in_ok-byte.field-0 new.refusal c.key_begins.result
    (sym c.in_ok-byte.ensures.settings.levels ∙ c.in_ok-enter.ensures.inside) (ap g.R.Source.source c.in_ok-enter.ensures.source) c.in_ok-byte.ensures.read key
