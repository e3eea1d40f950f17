use Rattle.cbor_decode_as.specs.Enums.{IsPart}
use Rattle.cbor_decode_as.specs.Takes.{context, formats_of}
use Rattle.cbor_de.proofs.facts.Forms.{part_content}
use Rattle.cbor_described.proofs.OneOfs.{content_not_made}
use Rattle.cbor_de.proofs.facts.Enums.{part_any}
use Rattle.cbor_read.specs.Source.{asks_for}
use Rattle.cbor_described.specs.EnumMemory.{AsksForPart}
use Rattle.cbor_described.proofs.VariantMemory.{content_as, part_memory}
use Rattle.cbor_described.proofs.variant.NewtypeReadVariant.read_content.Goals as goal

pub returns-in-Err-clause-read : goal.returns-in-Err-clause-read
returns-in-Err-clause-read g c =
    let old = c.args.de.now.decoder in
    let reads = g.T.Readable.reads (context old.formats g.R.Source.lends) in
    content_not_made (formats_of old.formats) old.levels c.args.form g.R.Source.refusals (g.R.Source.source old.source) (g.R.Source.source c.one_part.new.de.decoder.source)
    (IsPart reads) (λ content y. IsPart reads content y.0) c.in-Err.e (λ content y h. (y.0, h)) c.in-Err.ensures.read

pub returns-in-Err-clause-form : goal.returns-in-Err-clause-form
returns-in-Err-clause-form g c = part_content g.T.Readable.wrong_forms (formats_of c.args.de.now.decoder.formats) c.args.form _ c.in-Err.e c.in-Err.ensures.form

pub returns-in-Err-clause-fault : goal.returns-in-Err-clause-fault
returns-in-Err-clause-fault g c =
    let old = c.args.de.now.decoder in
    let of = g.T.Readable in
    part_any of.passes_over of.total of.reports_faults g.R.Source.refusals (of.reads (context old.formats g.R.Source.lends)) (formats_of old.formats) old.levels c.args.form (g.R.Source.source old.source) c.in-Err.e c.in-Err.ensures.fault

pub returns-in-Err-clause-memory : goal.returns-in-Err-clause-memory
returns-in-Err-clause-memory g c =
    let old = c.args.de.now.decoder in
    let f = formats_of old.formats in
    let s = g.R.Source.source old.source in
    let asks = g.T.Readable.asks_memory (asks_for g.R.Source.refusals g.R.Source.lends) in
    let reads = g.T.Readable.reads (context old.formats g.R.Source.lends) in
    content_as f old.levels s c.in-Err.e c.args.form (AsksForPart asks) (IsPart reads) (λ content y. IsPart reads content y.0) (λ content y h. (y.0, h))
    (part_memory f old.levels s c.in-Err.e asks reads c.args.form c.in-Err.ensures.memory)
