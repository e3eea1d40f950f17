use Rattle.std.proofs.Common.{ℕ, subst}
use Rattle.cbor_decode.specs.declared.formats.Formats.{Formats}
use Rattle.cbor_read.specs.Source.{Input}
use Rattle.cbor_decode_as.specs.Takes.{context, formats_of}
use Rattle.cbor_decode_as.specs.Variants.{TakesContent}
use Rattle.cbor_described.proofs.variant_list.content.Goals as goal

pub returns-in-None-clause-read : goal.returns-in-None-clause-read
returns-in-None-clause-read g c =
    let old = c.args.de.now.decoder in
    let mid = c.variant_at_hand.new.de.decoder in
    let t = g.R.Source.source c.read_variant.new.de.decoder.source in
    let r = c.read_variant.result in
    let same = c.in-None.ensures.settings in
    subst (λ (x : Input). TakesContent g.R.Source.refusals (formats_of old.formats) (g.E.VariantList.means (context old.formats g.R.Source.lends) c.args.i) old.levels c.args.form x t r) c.in-None.ensures.read
    (subst (λ (n : ℕ). TakesContent g.R.Source.refusals (formats_of old.formats) (g.E.VariantList.means (context old.formats g.R.Source.lends) c.args.i) n c.args.form (g.R.Source.source mid.source) t r) same.levels
    (subst (λ (f : Formats). TakesContent g.R.Source.refusals (formats_of f) (g.E.VariantList.means (context f g.R.Source.lends) c.args.i) mid.levels c.args.form (g.R.Source.source mid.source) t r) same.formats c.read_variant.ensures.read))
