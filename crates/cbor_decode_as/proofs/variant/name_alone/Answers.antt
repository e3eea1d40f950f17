use Rattle.std.proofs.lemmas.Result.{err_from_is_err_and}
use Rattle.cbor_decode_as.specs.Identifiers.{texts}
use Rattle.cbor_decode_as.specs.Takes.{formats_of}
use Rattle.cbor_decode_as.proofs.enums.Variants.{alone_taken}
use Rattle.cbor_decode_as.proofs.enums.VariantMaps.{none_alone}
use Rattle.cbor_decode_as.proofs.enums.VariantForms.{alone_refused, alone_begun}
use Rattle.cbor_read.specs.Source.{asks_for}
use Rattle.cbor_decode_as.specs.Strings.{IsAskedString}
use Rattle.cbor_decode_as.specs.declared.variant.Shape.TheVariants as shape
use Rattle.cbor_decode_as.proofs.enums.VariantFaults.{fault_of_form}
use Rattle.cbor_decode_as.proofs.enums.VariantMemory.{alone_memory}
use Rattle.cbor_decode_as.proofs.variant.name_alone.Goals as goal

pub returns-in_err-index-clause-read : goal.returns-in_err-index-clause-read
returns-in_err-index-clause-read g c =
    let passed = err_from_is_err_and c.from_residual.result c.from_residual.ensures.1 in
    let old = c.args.decoder.now in
    rw (passed.1, passed.2) (none_alone (formats_of old.formats) (texts c.args.names.now) g.R.Source.refusals old.levels (g.R.Source.source old.source) c.in_err-index.field-0.0 c.in_err-index.ensures.read)

pub returns-clause-read : goal.returns-clause-read
returns-clause-read g c =
    let old = c.args.decoder.now in
    let new = c.variant_name.new.decoder in
    alone_taken (formats_of old.formats) (texts c.args.names.now) old.levels new.levels c.in_ok-index.index (g.R.Source.source old.source) (g.R.Source.source new.source) c.in_ok-index.ensures.settings.levels c.requires c.in_ok-index.ensures.read

-- ---- whatever follows

pub returns-in_err-index-clause-opened : goal.returns-in_err-index-clause-opened
returns-in_err-index-clause-opened g c =
    let passed = err_from_is_err_and c.from_residual.result c.from_residual.ensures.1 in
    let old = c.args.decoder.now in
    rw (passed.1, passed.2) (alone_refused (formats_of old.formats) (texts c.args.names.now) old.levels (g.R.Source.source old.source) g.R.Source.refusals c.in_err-index.field-0.0 c.in_err-index.ensures.read)

pub returns-clause-opened : goal.returns-clause-opened
returns-clause-opened g c =
    let old = c.args.decoder.now in
    let new = c.variant_name.new.decoder in
    alone_begun (formats_of old.formats) (texts c.args.names.now) old.levels (g.R.Source.source old.source) (g.R.Source.source new.source) new.levels c.in_ok-index.index c.in_ok-index.ensures.settings.levels c.requires c.in_ok-index.ensures.read

-- ---- the fault, and memory

pub returns-in_err-index-clause-fault : goal.returns-in_err-index-clause-fault
returns-in_err-index-clause-fault g c =
    let passed = err_from_is_err_and c.from_residual.result c.from_residual.ensures.1 in
    let old = c.args.decoder.now in
    rw (passed.1, passed.2) (fault_of_form g.R.Source.refusals old.levels (g.R.Source.source old.source) c.in_err-index.field-0.0 shape.Alone c.in_err-index.ensures.fault)

pub returns-in_err-index-clause-memory : goal.returns-in_err-index-clause-memory
returns-in_err-index-clause-memory g c =
    let passed = err_from_is_err_and c.from_residual.result c.from_residual.ensures.1 in
    let old = c.args.decoder.now in
    rw (passed.1, passed.2) (alone_memory (IsAskedString (asks_for g.R.Source.refusals g.R.Source.lends)) (formats_of old.formats) (texts c.args.names.now) old.levels (g.R.Source.source old.source) c.in_err-index.field-0.0 c.in_err-index.ensures.memory)
