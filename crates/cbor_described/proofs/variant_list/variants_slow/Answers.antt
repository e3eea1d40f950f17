use Rattle.cbor_decode.specs.declared.formats.Formats.{Formats}
use Rattle.cbor_decode_as.specs.Identifiers.{texts}
use Rattle.cbor_decode_as.specs.Takes.{context, formats_of}
use Rattle.cbor_de.proofs.facts.Enums.{variant_unread}
use Rattle.cbor_described.proofs.OneOfs.{enum_answer}
use Rattle.cbor_de.specs.Forms.{Began, enum_form}
use Rattle.cbor_de.proofs.facts.Forms.{began_err, enum_reported, of_left, right_err}
use Rattle.std.proofs.lemmas.Result.{err_from_is_err_and}
use Rattle.cbor_decode_as.proofs.facts.Refusals.{always}
use Rattle.cbor_described.proofs.VariantFaults.{enum_told}
use Rattle.cbor_read.specs.Source.{asks_for}
use Rattle.std.proofs.Common.{IfErr, subst}
use Rattle.cbor_described.specs.EnumMemory.{MemoryForContent}
use Rattle.cbor_described.proofs.VariantMemory.{enum_asked, head_memory}
use Rattle.cbor_described.proofs.variant_list.variants_slow.Goals as goal

pub returns-in_err-index-clause-read : goal.returns-in_err-index-clause-read
returns-in_err-index-clause-read g c =
    let old = c.args.de.now.decoder in
    variant_unread (texts c.args.names.now) (g.E.VariantList.means (context old.formats g.R.Source.lends)) old.formats old.levels (g.R.Source.source c.variant_head.new.de.decoder.source) c.in_err-index.field-0.0 c.from_residual.result
    (λ t took. record { took = took; reported = c.in_err-index.ensures.read.reported }) c.from_residual.ensures.1 c.in_err-index.ensures.read.took

pub returns-clause-read : goal.returns-clause-read
returns-clause-read g c =
    let old = c.args.de.now.decoder in
    let mid = c.variant_head.new.de.decoder in
    enum_answer (texts c.args.names.now) (λ (f : Formats). g.E.VariantList.means (context f g.R.Source.lends)) old.formats old.levels
    (g.R.Source.source old.source) (g.R.Source.source mid.source) (g.R.Source.source c.read_variant.new.de.decoder.source) c.in_ok-index.index mid.levels c.in_ok-index.form mid.formats c.in_ok-index.ensures.formats g.R.Source.refusals
    c.in_ok-index.ensures.read c.read_variant.result c.read_variant.ensures.read

-- ---- a wrong form

pub returns-in_err-index-clause-form : goal.returns-in_err-index-clause-form
returns-in_err-index-clause-form g c =
    let passed = err_from_is_err_and c.from_residual.result c.from_residual.ensures.1 in
    let e = c.in_err-index.field-0.0 in
    rw (passed.1, passed.2) (of_left enum_form g.E.VariantList.wrong_forms _ _ e (enum_reported (formats_of c.args.de.now.decoder.formats) c.args.de.now.decoder.levels (g.R.Source.source c.args.de.now.decoder.source) e c.in_err-index.ensures.code c.in_err-index.ensures.cases))

pub returns-clause-form : goal.returns-clause-form
returns-clause-form g c =
    let r = c.read_variant.result in
    let old = c.args.de.now.decoder in
    let began : Began (formats_of old.formats) c.in_ok-index.form (g.R.Source.source old.source) (g.R.Source.source c.variant_head.new.de.decoder.source) = record { names = texts c.args.names.now; levels = old.levels; left = c.variant_head.new.de.decoder.levels; index = c.in_ok-index.index; step = c.in_ok-index.ensures.opened } in
    right_err enum_form g.E.VariantList.wrong_forms _ _ r (began_err g.E.VariantList.wrong_forms old.formats c.variant_head.new.de.decoder.formats c.in_ok-index.form _ _ r c.in_ok-index.ensures.formats began c.read_variant.ensures.form)

-- ---- the fault

pub returns-in_err-index-clause-fault : goal.returns-in_err-index-clause-fault
returns-in_err-index-clause-fault g c =
    let passed = err_from_is_err_and c.from_residual.result c.from_residual.ensures.1 in
    rw (passed.1, passed.2) (always g.E.VariantList.reports_faults c.in_err-index.ensures.fault)

pub returns-clause-fault : goal.returns-clause-fault
returns-clause-fault g c =
    let old = c.args.de.now.decoder in
    let mid = c.variant_head.new.de.decoder in
    enum_told g.R.Source.refusals (formats_of old.formats) (texts c.args.names.now) old.levels mid.levels c.in_ok-index.index c.in_ok-index.form (g.R.Source.source old.source) (g.R.Source.source mid.source) g.E.VariantList.reports_faults c.read_variant.result c.in_ok-index.ensures.opened c.read_variant.ensures.fault

-- ---- memory

pub returns-in_err-index-clause-memory : goal.returns-in_err-index-clause-memory
returns-in_err-index-clause-memory g c =
    let passed = err_from_is_err_and c.from_residual.result c.from_residual.ensures.1 in
    let old = c.args.de.now.decoder in
    let a = asks_for g.R.Source.refusals g.R.Source.lends in
    rw (passed.1, passed.2) (head_memory (texts c.args.names.now) (g.E.VariantList.means (context old.formats g.R.Source.lends)) a (g.E.VariantList.asks_memory a) (formats_of old.formats) old.levels (g.R.Source.source old.source) c.in_err-index.field-0.0 c.in_err-index.ensures.memory)

pub returns-clause-memory : goal.returns-clause-memory
returns-clause-memory g c =
    let old = c.args.de.now.decoder in
    let mid = c.variant_head.new.de.decoder in
    let means = λ (f : Formats). g.E.VariantList.means (context f g.R.Source.lends) in
    let a = asks_for g.R.Source.refusals g.R.Source.lends in
    let asks = g.E.VariantList.asks_memory a in
    let t = g.R.Source.source mid.source in
    let r = c.read_variant.result in
    enum_asked (texts c.args.names.now) (means old.formats) a asks (formats_of old.formats) old.levels mid.levels c.in_ok-index.index c.in_ok-index.form (g.R.Source.source old.source) t r c.in_ok-index.ensures.read
    (subst (λ (f : Formats). IfErr r (MemoryForContent (asks c.in_ok-index.index) (formats_of f) (means f c.in_ok-index.index) mid.levels c.in_ok-index.form t)) c.in_ok-index.ensures.formats c.read_variant.ensures.memory)
