use Rattle.std.proofs.Common.{ap, subst}
use Rattle.cbor_model.specs.Formats.{Formats}
use Rattle.cbor_decode_as.specs.Identifiers.{texts}
use Rattle.cbor_decode_as.specs.Takes.{formats_of}
use Rattle.cbor_decode_as.specs.Variants.{TakesShaped, HasNoTag}
use Rattle.cbor_decode_as.proofs.enums.VariantShapes.{tags_then}
use Rattle.cbor_decode_as.specs.BeginsEnum.{TakesForm}
use Rattle.cbor_decode_as.proofs.enums.VariantForms.{tags_refused, variant_then}
use Rattle.std.proofs.lemmas.Result.{IfErr-weaker}
use Rattle.cbor_read.specs.Source.{asks_for}
use Rattle.cbor_decode_as.specs.Strings.{IsAskedString}
use Rattle.cbor_decode_as.specs.BeginsEnum.{MemoryForForm, MemoryForVariant}
use Rattle.cbor_decode_as.specs.Takes.{ItemFault}
use Rattle.cbor_decode_as.proofs.enums.VariantFaults.{tagged_fault, tags_fault}
use Rattle.cbor_decode_as.proofs.enums.VariantMemory.{tagged_memory, tags_memory}
use Rattle.cbor_decode_as.proofs.variant.tagged_variant.Goals as goal

pub returns-in-Ok-clause-read : goal.returns-in-Ok-clause-read
returns-in-Ok-clause-read g c =
    let old = c.args.decoder.now in
    let mid = c.pass_tags.new.decoder in
    let new = c.untagged_variant.new.decoder in
    let a = g.R.Source.source mid.source in
    let t = g.R.Source.source new.source in
    let names = texts c.args.names.now in
    let read = subst (λ (f : Formats). TakesShaped HasNoTag g.R.Source.refusals f names mid.levels a t new.levels c.untagged_variant.result) (ap formats_of c.in-Ok.ensures.formats) c.untagged_variant.ensures.read in
    tags_then (formats_of old.formats) names old.levels mid.levels (g.R.Source.source old.source) a g.R.Source.refusals c.in-Ok.ensures.read t new.levels c.untagged_variant.result read

-- ---- whatever follows

pub returns-in-Ok-clause-opened : goal.returns-in-Ok-clause-opened
returns-in-Ok-clause-opened g c =
    let old = c.args.decoder.now in
    let mid = c.pass_tags.new.decoder in
    let new = c.untagged_variant.new.decoder in
    let a = g.R.Source.source mid.source in
    let t = g.R.Source.source new.source in
    let names = texts c.args.names.now in
    let read = subst (λ (f : Formats). TakesForm g.R.Source.refusals f names mid.levels a t new.levels c.untagged_variant.result) (ap formats_of c.in-Ok.ensures.formats) c.untagged_variant.ensures.opened in
    variant_then g.R.Source.refusals (formats_of old.formats) names old.levels (g.R.Source.source old.source) a mid.levels c.in-Ok.ensures.passed t new.levels c.untagged_variant.result read

pub returns-in-Err-clause-opened : goal.returns-in-Err-clause-opened
returns-in-Err-clause-opened g c =
    let old = c.args.decoder.now in
    let s = g.R.Source.source old.source in
    rw c.error.ensures.source (tags_refused g.R.Source.refusals (formats_of old.formats) (texts c.args.names.now) old.levels s s c.pass_tags.new.decoder.refusal c.in-Err.refused c.error.result c.error.ensures.reports c.in-Err.ensures.passed)

-- ---- the fault, and memory

pub returns-in-Ok-clause-fault : goal.returns-in-Ok-clause-fault
returns-in-Ok-clause-fault g c =
    let old = c.args.decoder.now in
    let mid = c.pass_tags.new.decoder in
    let s = g.R.Source.source old.source in
    let a = g.R.Source.source mid.source in
    IfErr-weaker c.untagged_variant.result (ItemFault g.R.Source.refusals mid.levels a) (ItemFault g.R.Source.refusals old.levels s)
    (λ e h. tagged_fault g.R.Source.refusals old.levels s e a mid.levels c.in-Ok.ensures.passed h) c.untagged_variant.ensures.fault

pub returns-in-Err-clause-fault : goal.returns-in-Err-clause-fault
returns-in-Err-clause-fault g c =
    let old = c.args.decoder.now in
    tags_fault g.R.Source.refusals old.levels (g.R.Source.source old.source) c.error.result c.pass_tags.new.decoder.refusal c.in-Err.refused c.error.ensures.reports c.in-Err.ensures.passed

pub returns-in-Ok-clause-memory : goal.returns-in-Ok-clause-memory
returns-in-Ok-clause-memory g c =
    let old = c.args.decoder.now in
    let mid = c.pass_tags.new.decoder in
    let s = g.R.Source.source old.source in
    let a = g.R.Source.source mid.source in
    let f = formats_of old.formats in
    let names = texts c.args.names.now in
    let asks = IsAskedString (asks_for g.R.Source.refusals g.R.Source.lends) in
    let formats = ap formats_of c.in-Ok.ensures.formats in
    IfErr-weaker c.untagged_variant.result (MemoryForForm asks (formats_of mid.formats) names mid.levels a) (MemoryForVariant asks f names old.levels s)
    (λ e h. tagged_memory asks f names old.levels s e a mid.levels c.in-Ok.ensures.passed (subst (λ (f : Formats). MemoryForForm asks f names mid.levels a e) formats h)) c.untagged_variant.ensures.memory

pub returns-in-Err-clause-memory : goal.returns-in-Err-clause-memory
returns-in-Err-clause-memory g c =
    let old = c.args.decoder.now in
    tags_memory (IsAskedString (asks_for g.R.Source.refusals g.R.Source.lends)) (formats_of old.formats) (texts c.args.names.now) old.levels (g.R.Source.source old.source) c.error.result c.pass_tags.new.decoder.refusal c.in-Err.refused c.error.ensures.reports c.in-Err.ensures.memory
