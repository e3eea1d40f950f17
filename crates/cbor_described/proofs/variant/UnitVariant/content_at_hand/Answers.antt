use Rattle.cbor_decode_as.specs.Takes.{formats_of}
use Rattle.cbor_described.proofs.OneOfs.{nothing_alone}
use Rattle.cbor_described.proofs.variant.UnitVariant.content_at_hand.Goals as goal

pub returns-in-Alone-clause-read : goal.returns-in-Alone-clause-read
returns-in-Alone-clause-read g c =
    let old = c.args._de.now.decoder in
    rw c.in-Alone.is (nothing_alone (formats_of old.formats) old.levels (g.R.Source.source old.source) g.R.Source.refusals)
