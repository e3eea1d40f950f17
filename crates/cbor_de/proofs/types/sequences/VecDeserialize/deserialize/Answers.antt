use Rattle.cbor_decode_as.specs.Takes.{context, formats_of}
use Rattle.cbor_de.proofs.values.Made.{vector_made}
use Rattle.cbor_de.proofs.types.sequences.VecDeserialize.deserialize.Goals as goal

pub returns-clause-read : goal.returns-clause-read
returns-clause-read g c =
    let old = c.args.de.now.decoder in
    vector_made g.R.Source.refusals (formats_of old.formats) (g.T.Readable.reads (context old.formats g.R.Source.lends)) old.levels (g.R.Source.source old.source) (g.R.Source.source c.array_items.new.de.decoder.source) c.array_items.result c.array_items.ensures.read
