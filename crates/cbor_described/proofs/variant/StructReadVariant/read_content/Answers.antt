use Rattle.cbor_parts.specs.declared.Struct.{Struct}
use Rattle.cbor_model.specs.Raw.{Raw}
use Rattle.cbor_parts.specs.Keys.{named_keys}
use Rattle.cbor_decode_as.specs.Enums.{IsPart}
use Rattle.cbor_decode_as.specs.Takes.{context, formats_of}
use Rattle.cbor_described.specs.declared.variant.NamedParts.{NamedParts}
use Rattle.cbor_de.proofs.facts.Forms.{part_content}
use Rattle.cbor_described.proofs.OneOfs.{content_made, content_not_made}
use Rattle.cbor_described.proofs.OneParts.{is_part, part_is}
use Rattle.std.proofs.Common.{false}
use Rattle.cbor_de.proofs.facts.Enums.{part_any}
use Rattle.cbor_read.specs.Source.{asks_for}
use Rattle.cbor_described.specs.EnumMemory.{AsksForPart}
use Rattle.cbor_described.proofs.VariantMemory.{content_as, part_memory}
use Rattle.cbor_described.proofs.variant.StructReadVariant.read_content.Goals as goal

pub returns-in-Ok-clause-read : goal.returns-in-Ok-clause-read
returns-in-Ok-clause-read g c =
    let old = c.args.de.now.decoder in
    let reads = g.N.Parts.ReadableParts.reads (named_keys g.N.FieldNames.names) (context old.formats g.R.Source.lends) in
    let named = λ (r : Raw) (y : NamedParts g.row.N.Denot g.row.N-Parts.Denot). reads r y.0 in
    content_made (formats_of old.formats) old.levels c.args.form g.R.Source.refusals (g.R.Source.source old.source) (g.R.Source.source c.one_part.new.de.decoder.source)
    (IsPart named) (λ content y. IsPart reads content y.0) c.in-Ok.named (record { 0 = c.in-Ok.named.0 }) (λ content h. is_part reads (λ (y : NamedParts g.row.N.Denot g.row.N-Parts.Denot). y.0) content c.in-Ok.named h) c.in-Ok.ensures.read

pub returns-in-Err-clause-read : goal.returns-in-Err-clause-read
returns-in-Err-clause-read g c =
    let old = c.args.de.now.decoder in
    let reads = g.N.Parts.ReadableParts.reads (named_keys g.N.FieldNames.names) (context old.formats g.R.Source.lends) in
    let named = λ (r : Raw) (y : NamedParts g.row.N.Denot g.row.N-Parts.Denot). reads r y.0 in
    content_not_made (formats_of old.formats) old.levels c.args.form g.R.Source.refusals (g.R.Source.source old.source) (g.R.Source.source c.one_part.new.de.decoder.source)
    (IsPart named) (λ content (y : Struct g.row.N.Denot g.row.N-Parts.Denot). IsPart reads content y.0) c.in-Err.e (λ content y h. (record { 0 = y.0 }, part_is reads (λ (y : NamedParts g.row.N.Denot g.row.N-Parts.Denot). y.0) content (record { 0 = y.0 }) h)) c.in-Err.ensures.read

pub returns-in-Err-clause-form : goal.returns-in-Err-clause-form
returns-in-Err-clause-form g c = part_content g.N.Parts.ReadableParts.wrong_forms (formats_of c.args.de.now.decoder.formats) c.args.form _ c.in-Err.e c.in-Err.ensures.form

pub returns-in-Err-clause-fault : goal.returns-in-Err-clause-fault
returns-in-Err-clause-fault g c =
    let old = c.args.de.now.decoder in
    let of = g.N.Parts.ReadableParts in
    let named = λ (r : Raw) (y : NamedParts g.row.N.Denot g.row.N-Parts.Denot). of.reads (named_keys g.N.FieldNames.names) (context old.formats g.R.Source.lends) r y.0 in
    part_any false false of.reports_faults g.R.Source.refusals named (formats_of old.formats) old.levels c.args.form (g.R.Source.source old.source) c.in-Err.e c.in-Err.ensures.fault

pub returns-in-Err-clause-memory : goal.returns-in-Err-clause-memory
returns-in-Err-clause-memory g c =
    let old = c.args.de.now.decoder in
    let f = formats_of old.formats in
    let s = g.R.Source.source old.source in
    let of = g.N.Parts.ReadableParts in
    let asks = of.asks_memory (named_keys g.N.FieldNames.names) (asks_for g.R.Source.refusals g.R.Source.lends) in
    let reads = of.reads (named_keys g.N.FieldNames.names) (context old.formats g.R.Source.lends) in
    let named = λ (r : Raw) (y : NamedParts g.row.N.Denot g.row.N-Parts.Denot). reads r y.0 in
    content_as f old.levels s c.in-Err.e c.args.form (AsksForPart asks) (IsPart named) (λ content (y : Struct g.row.N.Denot g.row.N-Parts.Denot). IsPart reads content y.0) (λ content y h. (record { 0 = y.0 }, part_is reads (λ (y : NamedParts g.row.N.Denot g.row.N-Parts.Denot). y.0) content (record { 0 = y.0 }) h))
    (part_memory f old.levels s c.in-Err.e asks named c.args.form c.in-Err.ensures.memory)
