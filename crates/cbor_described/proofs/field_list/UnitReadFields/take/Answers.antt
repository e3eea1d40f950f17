use Rattle.cbor_decode_as.specs.Takes.{formats_of}
use Rattle.cbor_described.proofs.FieldLists.{passed_on}
use Rattle.cbor_described.proofs.field_list.UnitReadFields.take.Goals as goal

pub returns-clause-read : goal.returns-clause-read
returns-clause-read g c =
    passed_on (formats_of c.args.de.now.decoder.formats) c.args.de.now.decoder.levels g.R.Source.refusals c.args._i (g.R.Source.source c.args.de.now.decoder.source) _ c.skip_item.result c.skip_item.ensures.read
