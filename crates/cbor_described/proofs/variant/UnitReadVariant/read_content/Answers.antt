use Rattle.cbor_decode_as.specs.Takes.{formats_of}
use Rattle.cbor_de.proofs.facts.Forms.{unit_err}
use Rattle.cbor_decode_as.specs.Contents.{MemoryForNull}
use Rattle.cbor_decode_as.specs.Enums.{IsNothing}
use Rattle.cbor_described.specs.EnumMemory.{AsksNone, MemoryForContent}
use Rattle.cbor_described.proofs.Makings.{err_map}
use Rattle.cbor_described.proofs.VariantMemory.{nothing_memory}
use Rattle.cbor_described.proofs.variant.UnitReadVariant.read_content.Goals as goal

pub returns-clause-form : goal.returns-clause-form
returns-clause-form g c = unit_err (formats_of c.args.de.now.decoder.formats) c.args.form (g.R.Source.source c.args.de.now.decoder.source) c.no_part.result c.no_part.ensures.code c.no_part.ensures.cases

pub returns-clause-memory : goal.returns-clause-memory
returns-clause-memory g c =
    let old = c.args.de.now.decoder in
    let f = formats_of old.formats in
    let s = g.R.Source.source old.source in
    err_map (MemoryForNull f old.levels c.args.form s) (MemoryForContent AsksNone f IsNothing old.levels c.args.form s) c.no_part.result (λ e. nothing_memory f old.levels s e c.args.form) c.no_part.ensures.memory
