use Rattle.cbor_decode_as.specs.Takes.{context, formats_of}
use Rattle.cbor_described.proofs.OneOfs.{this_read, other_read}
use Rattle.cbor_described.proofs.variant_list.OneOfVariantList.variant_at_hand.Goals as goal

pub returns-in-Some-clause-read : goal.returns-in-Some-clause-read
returns-in-Some-clause-read g c =
    let old = c.args.de.now.decoder in
    let k = context old.formats g.R.Source.lends in
    other_read (g.V.Variant.means k) (g.Vs.VariantList.means k) (formats_of old.formats) old.levels c.args.form g.R.Source.refusals (g.R.Source.source old.source) (g.R.Source.source c.variant_at_hand.new.de.decoder.source) c.args.i c.if-i-ne0.true c.in-Some.other c.in-Some.ensures.read

pub returns-in-Some-content_at_hand-clause-read : goal.returns-in-Some-content_at_hand-clause-read
returns-in-Some-content_at_hand-clause-read g c =
    let old = c.args.de.now.decoder in
    let k = context old.formats g.R.Source.lends in
    rw c.if-i-ne0.false (this_read (g.V.Variant.means k) (g.Vs.VariantList.means k) (formats_of old.formats) old.levels c.args.form g.R.Source.refusals (g.R.Source.source old.source) (g.R.Source.source c.content_at_hand.new.de.decoder.source) c.in-Some-content_at_hand.this c.in-Some-content_at_hand.ensures.read)
