use Rattle.std.proofs.Common.{refl}
use Rattle.cbor_decode.specs.declared.formats.Formats.{Formats}
use Rattle.cbor_decode.proofs.facts.Steps.{took_stays}
use Rattle.cbor_decode_as.specs.Enums.{IsEnum}
use Rattle.cbor_decode_as.specs.Identifiers.{texts}
use Rattle.cbor_decode_as.specs.Takes.{context, formats_of}
use Rattle.cbor_decode_as.proofs.facts.Readings.{read_gathered}
use Rattle.cbor_model.specs.Readable.{PassesTags}
use Rattle.cbor_read.specs.Source.{asks_for}
use Rattle.cbor_de.specs.Forms.{any_of, enum_form}
use Rattle.cbor_de.proofs.facts.Faults.{own_err_gathered}
use Rattle.cbor_de.proofs.facts.Forms.{later_err}
use Rattle.cbor_de.proofs.facts.Readings.{memory_err_gathered, ok_gathered}
use Rattle.cbor_described.specs.EnumMemory.{AsksForEnum}
use Rattle.cbor_described.proofs.variant_list.variants_gathered.Goals as goal

pub returns-clause-read : goal.returns-clause-read
returns-clause-read g c =
    let old = c.args.de.now.decoder in
    let mid = c.gather_variant.new.de.decoder in
    let same = c.gather_variant.ensures in
    let means = λ (f : Formats). g.E.VariantList.means (context f g.R.Source.lends) in
    read_gathered _ _ same.stays old.formats mid.formats same.settings.formats g.R.Source.refusals (λ (f : Formats). PassesTags (IsEnum (formats_of f) (texts c.args.names.now) (means f))) old.levels mid.levels same.settings.levels _ c.variants_within.result c.variants_within.ensures.read

pub returns-clause-taken : goal.returns-clause-taken
returns-clause-taken g c = ok_gathered _ _ _ c.gather_variant.ensures.stays c.variants_within.result c.variants_within.ensures.taken

pub returns-clause-form : goal.returns-clause-form
returns-clause-form g c =
    let mid = c.gather_variant.new.de.decoder in
    let same = c.gather_variant.ensures in
    later_err (any_of enum_form g.E.VariantList.wrong_forms) c.args.de.now.decoder.formats mid.formats _ _ c.variants_within.result same.settings.formats (took_stays _ _ same.stays) c.variants_within.ensures.form

pub returns-clause-fault : goal.returns-clause-fault
returns-clause-fault g c =
    let old = c.args.de.now.decoder in
    let mid = c.gather_variant.new.de.decoder in
    let same = c.gather_variant.ensures in
    own_err_gathered (g.R.Source.source old.source) (g.R.Source.source mid.source) same.stays g.R.Source.refusals old.levels mid.levels same.settings.levels g.E.VariantList.reports_faults c.variants_within.result c.variants_within.ensures.fault

pub returns-clause-memory : goal.returns-clause-memory
returns-clause-memory g c =
    let old = c.args.de.now.decoder in
    let mid = c.gather_variant.new.de.decoder in
    let same = c.gather_variant.ensures in
    let names = texts c.args.names.now in
    let asks = asks_for g.R.Source.refusals g.R.Source.lends in
    let means = λ (f : Formats). g.E.VariantList.means (context f g.R.Source.lends) in
    memory_err_gathered _ _ same.stays (AsksForEnum names asks (g.E.VariantList.asks_memory asks)) old.formats mid.formats same.settings.formats (λ (f : Formats). PassesTags (IsEnum (formats_of f) names (means f))) old.levels mid.levels same.settings.levels c.variants_within.result c.variants_within.ensures.memory
