use Rattle.cbor_decode_as.specs.Takes.{context, formats_of}
use Rattle.cbor_decode_as.specs.Enums.{part_then, no_part}
use Rattle.cbor_de.proofs.parts.ItemLists.{no_items_of}
use Rattle.cbor_de.proofs.tuple_parts.Tuple8ReadTuple.read_tuple.Goals as goal

pub returns-in-Err-clause-read : goal.returns-in-Err-clause-read
returns-in-Err-clause-read g c =
    let old = c.args.de.now.decoder in
    let k = context old.formats g.R.Source.lends in
    no_items_of (λ (x : g.row.A.Denot × g.row.B.Denot × g.row.C.Denot × g.row.D.Denot × g.row.E.Denot × g.row.F.Denot × g.row.G.Denot × g.row.H.Denot). (x.0, (x.1, (x.2, (x.3, (x.4, (x.5, (x.6, (x.7, tt))))))))) (part_then (g.A.Readable.reads k) (part_then (g.B.Readable.reads k) (part_then (g.C.Readable.reads k) (part_then (g.D.Readable.reads k) (part_then (g.E.Readable.reads k) (part_then (g.F.Readable.reads k) (part_then (g.G.Readable.reads k) (part_then (g.H.Readable.reads k) no_part)))))))) (formats_of old.formats) old.levels c.args.remaining g.R.Source.refusals (g.R.Source.source old.source) (g.R.Source.source c.read_items.new.de.decoder.source) c.in-Err.e c.in-Err.ensures.read
