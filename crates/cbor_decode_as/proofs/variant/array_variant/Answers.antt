use Rattle.std.proofs.Common.{◌∙◌, ℕ, Ok, Err, ap, subst}
use Rattle.std.proofs.lemmas.Result.{err_from_is_err_and}
use Rattle.cbor_model.specs.Formats.{Formats}
use Rattle.cbor_decode_as.specs.Enums.{IsName}
use Rattle.cbor_decode_as.specs.Identifiers.{texts}
use Rattle.cbor_decode_as.specs.Takes.{formats_of, TakesItem}
use Rattle.cbor_decode_as.proofs.enums.Variants.{no_array, no_first, no_first_name, array_variant_taken}
use Rattle.cbor_decode_as.proofs.enums.VariantForms.{array_refused, empty_refused, unnamed_refused, array_begun}
use Rattle.cbor_decode_as.proofs.refused.Cases.{empty_stands}
use Rattle.cbor_read.specs.Source.{asks_for}
use Rattle.cbor_decode_as.specs.BeginsEnum.{MemoryForIdentifier}
use Rattle.cbor_decode_as.specs.Strings.{IsAskedString}
use Rattle.cbor_decode_as.specs.Takes.{ItemFault}
use Rattle.cbor_decode_as.specs.declared.variant.Shape.TheVariants as shape
use Rattle.cbor_decode_as.proofs.enums.VariantFaults.{array_head_fault, fault_of_form, first_fault, no_first_fault}
use Rattle.cbor_decode_as.proofs.enums.VariantMemory.{array_head_memory, first_memory, no_form_memory}
use Rattle.cbor_decode_as.proofs.variant.array_variant.Goals as goal

pub returns-in_err-remaining-clause-read : goal.returns-in_err-remaining-clause-read
returns-in_err-remaining-clause-read g c =
    let passed = err_from_is_err_and c.from_residual.result c.from_residual.ensures.1 in
    let old = c.args.decoder.now in
    rw (passed.1, passed.2) (no_array (formats_of old.formats) (texts c.args.names.now) g.R.Source.refusals old.levels (g.R.Source.source old.source) c.in_err-remaining.field-0.0 c.in_err-remaining.ensures.read)

pub returns-in_err-expect_item-clause-read : goal.returns-in_err-expect_item-clause-read
returns-in_err-expect_item-clause-read g c =
    let passed = err_from_is_err_and c.from_residual-in_err-expect_item.result c.from_residual-in_err-expect_item.ensures.1 in
    let old = c.args.decoder.now in
    let inner = c.head.new.decoder in
    rw (passed.1, passed.2) (no_first (formats_of old.formats) (texts c.args.names.now) g.R.Source.refusals old.levels (g.R.Source.source old.source) c.in_err-expect_item.field-0.0 (g.R.Source.source inner.source) inner.levels c.in_ok-remaining.remaining c.in_ok-remaining.ensures.read c.in_err-expect_item.ensures.read)

pub returns-in_err-expect_item-clause-cases : goal.returns-in_err-expect_item-clause-cases
returns-in_err-expect_item-clause-cases g c =
    let passed = err_from_is_err_and c.from_residual-in_err-expect_item.result c.from_residual-in_err-expect_item.ensures.1 in
    let old = c.args.decoder.now in
    let inner = c.head.new.decoder in
    rw (passed.1, passed.2) (empty_stands (formats_of old.formats) old.levels inner.levels c.in_ok-remaining.remaining (g.R.Source.source old.source) (g.R.Source.source inner.source) c.in_err-expect_item.field-0.0 c.in_ok-remaining.ensures.opened c.in_err-expect_item.ensures.none)

pub returns-in_err-index-clause-read : goal.returns-in_err-index-clause-read
returns-in_err-index-clause-read g c =
    let passed = err_from_is_err_and c.from_residual-in_err-index.result c.from_residual-in_err-index.ensures.1 in
    let old = c.args.decoder.now in
    let inner = c.head.new.decoder in
    let mid = c.expect_item.new.decoder in
    let b = g.R.Source.source mid.source in
    let t = g.R.Source.source c.variant_name.new.decoder.source in
    let e = c.in_err-index.field-0.0 in
    let names = texts c.args.names.now in
    let formats = ap formats_of (c.in_ok-expect_item.ensures.settings.formats ∙ c.in_ok-remaining.ensures.formats) in
    let read = subst (λ (f : Formats). TakesItem g.R.Source.refusals f (IsName names) mid.levels b t (Err e)) formats c.in_err-index.ensures.read in
    let here = subst (λ (n : ℕ). TakesItem g.R.Source.refusals (formats_of old.formats) (IsName names) n b t (Err e)) c.in_ok-expect_item.ensures.settings.levels read in
    rw (passed.1, passed.2) (no_first_name (formats_of old.formats) names g.R.Source.refusals old.levels (g.R.Source.source old.source) e (g.R.Source.source inner.source) inner.levels c.in_ok-remaining.remaining c.in_ok-remaining.ensures.read
    b c.expect_item.new.remaining c.in_ok-expect_item.ensures.read here)

pub returns-clause-read : goal.returns-clause-read
returns-clause-read g c =
    let old = c.args.decoder.now in
    let inner = c.head.new.decoder in
    let mid = c.expect_item.new.decoder in
    let new = c.variant_name.new.decoder in
    let b = g.R.Source.source mid.source in
    let t = g.R.Source.source new.source in
    let i = c.in_ok-index.index in
    let names = texts c.args.names.now in
    let formats = ap formats_of (c.in_ok-expect_item.ensures.settings.formats ∙ c.in_ok-remaining.ensures.formats) in
    let read = subst (λ (f : Formats). TakesItem g.R.Source.refusals f (IsName names) mid.levels b t (Ok i)) formats c.in_ok-index.ensures.read in
    let here = subst (λ (n : ℕ). TakesItem g.R.Source.refusals (formats_of old.formats) (IsName names) n b t (Ok i)) c.in_ok-expect_item.ensures.settings.levels read in
    array_variant_taken (formats_of old.formats) names old.levels inner.levels new.levels i c.in_ok-remaining.remaining c.expect_item.new.remaining (g.R.Source.source old.source) (g.R.Source.source inner.source) b t
    (c.in_ok-index.ensures.settings.levels ∙ c.in_ok-expect_item.ensures.settings.levels) c.requires c.in_ok-remaining.ensures.read c.in_ok-expect_item.ensures.read here

-- ---- whatever follows

pub returns-in_err-remaining-clause-opened : goal.returns-in_err-remaining-clause-opened
returns-in_err-remaining-clause-opened g c =
    let passed = err_from_is_err_and c.from_residual.result c.from_residual.ensures.1 in
    let old = c.args.decoder.now in
    rw (passed.1, passed.2) (array_refused (formats_of old.formats) (texts c.args.names.now) old.levels (g.R.Source.source old.source) g.R.Source.refusals c.in_err-remaining.field-0.0 c.in_err-remaining.ensures.opened)

pub returns-in_err-expect_item-clause-opened : goal.returns-in_err-expect_item-clause-opened
returns-in_err-expect_item-clause-opened g c =
    let passed = err_from_is_err_and c.from_residual-in_err-expect_item.result c.from_residual-in_err-expect_item.ensures.1 in
    let old = c.args.decoder.now in
    let inner = c.head.new.decoder in
    rw (passed.1, passed.2) (empty_refused (formats_of old.formats) (texts c.args.names.now) old.levels (g.R.Source.source old.source) (g.R.Source.source inner.source) inner.levels c.in_ok-remaining.remaining c.in_ok-remaining.ensures.opened
    g.R.Source.refusals c.in_err-expect_item.field-0.0 c.in_err-expect_item.ensures.read)

pub returns-in_err-index-clause-opened : goal.returns-in_err-index-clause-opened
returns-in_err-index-clause-opened g c =
    let passed = err_from_is_err_and c.from_residual-in_err-index.result c.from_residual-in_err-index.ensures.1 in
    let old = c.args.decoder.now in
    let inner = c.head.new.decoder in
    let mid = c.expect_item.new.decoder in
    let b = g.R.Source.source mid.source in
    let t = g.R.Source.source c.variant_name.new.decoder.source in
    let e = c.in_err-index.field-0.0 in
    let names = texts c.args.names.now in
    let formats = ap formats_of (c.in_ok-expect_item.ensures.settings.formats ∙ c.in_ok-remaining.ensures.formats) in
    let read = subst (λ (f : Formats). TakesItem g.R.Source.refusals f (IsName names) mid.levels b t (Err e)) formats c.in_err-index.ensures.read in
    let here = subst (λ (n : ℕ). TakesItem g.R.Source.refusals (formats_of old.formats) (IsName names) n b t (Err e)) c.in_ok-expect_item.ensures.settings.levels read in
    rw (passed.1, passed.2) (unnamed_refused (formats_of old.formats) names old.levels (g.R.Source.source old.source) (g.R.Source.source inner.source) inner.levels c.in_ok-remaining.remaining c.in_ok-remaining.ensures.opened
    b c.expect_item.new.remaining c.in_ok-expect_item.ensures.read g.R.Source.refusals e here)

pub returns-clause-opened : goal.returns-clause-opened
returns-clause-opened g c =
    let old = c.args.decoder.now in
    let inner = c.head.new.decoder in
    let mid = c.expect_item.new.decoder in
    let new = c.variant_name.new.decoder in
    let b = g.R.Source.source mid.source in
    let t = g.R.Source.source new.source in
    let i = c.in_ok-index.index in
    let names = texts c.args.names.now in
    let formats = ap formats_of (c.in_ok-expect_item.ensures.settings.formats ∙ c.in_ok-remaining.ensures.formats) in
    let read = subst (λ (f : Formats). TakesItem g.R.Source.refusals f (IsName names) mid.levels b t (Ok i)) formats c.in_ok-index.ensures.read in
    let here = subst (λ (n : ℕ). TakesItem g.R.Source.refusals (formats_of old.formats) (IsName names) n b t (Ok i)) c.in_ok-expect_item.ensures.settings.levels read in
    array_begun (formats_of old.formats) names old.levels (g.R.Source.source old.source) (g.R.Source.source inner.source) inner.levels c.in_ok-remaining.remaining c.in_ok-remaining.ensures.opened
    b c.expect_item.new.remaining c.in_ok-expect_item.ensures.read t new.levels i (c.in_ok-index.ensures.settings.levels ∙ c.in_ok-expect_item.ensures.settings.levels) c.requires here

-- ---- the fault

pub returns-in_err-remaining-clause-fault : goal.returns-in_err-remaining-clause-fault
returns-in_err-remaining-clause-fault g c =
    let passed = err_from_is_err_and c.from_residual.result c.from_residual.ensures.1 in
    let old = c.args.decoder.now in
    let s = g.R.Source.source old.source in
    let e = c.in_err-remaining.field-0.0 in
    rw (passed.1, passed.2) (fault_of_form g.R.Source.refusals old.levels s e shape.Array (array_head_fault g.R.Source.refusals old.levels s e c.in_err-remaining.ensures.fault))

pub returns-in_err-expect_item-clause-fault : goal.returns-in_err-expect_item-clause-fault
returns-in_err-expect_item-clause-fault g c =
    let passed = err_from_is_err_and c.from_residual-in_err-expect_item.result c.from_residual-in_err-expect_item.ensures.1 in
    let old = c.args.decoder.now in
    let inner = c.head.new.decoder in
    let s = g.R.Source.source old.source in
    let e = c.in_err-expect_item.field-0.0 in
    rw (passed.1, passed.2) (fault_of_form g.R.Source.refusals old.levels s e shape.Array
    (no_first_fault g.R.Source.refusals old.levels s e (g.R.Source.source inner.source) inner.levels c.in_ok-remaining.remaining c.in_ok-remaining.ensures.opened c.in_err-expect_item.ensures.fault))

pub returns-in_err-index-clause-fault : goal.returns-in_err-index-clause-fault
returns-in_err-index-clause-fault g c =
    let passed = err_from_is_err_and c.from_residual-in_err-index.result c.from_residual-in_err-index.ensures.1 in
    let old = c.args.decoder.now in
    let inner = c.head.new.decoder in
    let mid = c.expect_item.new.decoder in
    let s = g.R.Source.source old.source in
    let b = g.R.Source.source mid.source in
    let e = c.in_err-index.field-0.0 in
    let here = subst (λ (n : ℕ). ItemFault g.R.Source.refusals n b e) c.in_ok-expect_item.ensures.settings.levels c.in_err-index.ensures.fault in
    rw (passed.1, passed.2) (fault_of_form g.R.Source.refusals old.levels s e shape.Array
    (first_fault g.R.Source.refusals old.levels s e (g.R.Source.source inner.source) inner.levels c.in_ok-remaining.remaining c.in_ok-remaining.ensures.opened b c.expect_item.new.remaining c.in_ok-expect_item.ensures.read here))

-- ---- memory

pub returns-in_err-remaining-clause-memory : goal.returns-in_err-remaining-clause-memory
returns-in_err-remaining-clause-memory g c =
    let passed = err_from_is_err_and c.from_residual.result c.from_residual.ensures.1 in
    let old = c.args.decoder.now in
    rw (passed.1, passed.2) (array_head_memory (IsAskedString (asks_for g.R.Source.refusals g.R.Source.lends)) (formats_of old.formats) (texts c.args.names.now) old.levels (g.R.Source.source old.source) c.in_err-remaining.field-0.0 c.in_err-remaining.ensures.memory)

pub returns-in_err-expect_item-clause-memory : goal.returns-in_err-expect_item-clause-memory
returns-in_err-expect_item-clause-memory g c =
    let passed = err_from_is_err_and c.from_residual-in_err-expect_item.result c.from_residual-in_err-expect_item.ensures.1 in
    let old = c.args.decoder.now in
    rw (passed.1, passed.2) (no_form_memory (IsAskedString (asks_for g.R.Source.refusals g.R.Source.lends)) (formats_of old.formats) (texts c.args.names.now) old.levels (g.R.Source.source old.source) c.in_err-expect_item.field-0.0 shape.Array c.in_err-expect_item.ensures.memory)

pub returns-in_err-index-clause-memory : goal.returns-in_err-index-clause-memory
returns-in_err-index-clause-memory g c =
    let passed = err_from_is_err_and c.from_residual-in_err-index.result c.from_residual-in_err-index.ensures.1 in
    let old = c.args.decoder.now in
    let inner = c.head.new.decoder in
    let mid = c.expect_item.new.decoder in
    let b = g.R.Source.source mid.source in
    let e = c.in_err-index.field-0.0 in
    let names = texts c.args.names.now in
    let asks = IsAskedString (asks_for g.R.Source.refusals g.R.Source.lends) in
    let formats = ap formats_of (c.in_ok-expect_item.ensures.settings.formats ∙ c.in_ok-remaining.ensures.formats) in
    let at = subst (λ (f : Formats). MemoryForIdentifier asks f names mid.levels b e) formats c.in_err-index.ensures.memory in
    let here = subst (λ (n : ℕ). MemoryForIdentifier asks (formats_of old.formats) names n b e) c.in_ok-expect_item.ensures.settings.levels at in
    rw (passed.1, passed.2) (first_memory asks (formats_of old.formats) names old.levels (g.R.Source.source old.source) e (g.R.Source.source inner.source) b inner.levels c.in_ok-remaining.remaining c.expect_item.new.remaining c.in_ok-remaining.ensures.opened c.in_ok-expect_item.ensures.read here)
