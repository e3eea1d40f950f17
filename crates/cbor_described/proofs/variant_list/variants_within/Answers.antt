use Rattle.cbor_decode.specs.declared.formats.Formats.{Formats}
use Rattle.cbor_decode_as.specs.Identifiers.{texts}
use Rattle.cbor_decode_as.specs.Takes.{context, formats_of}
use Rattle.cbor_described.proofs.OneOfs.{enum_answer}
use Rattle.cbor_de.specs.Forms.{Began, enum_form}
use Rattle.cbor_de.proofs.facts.Forms.{began_err, right_err}
use Rattle.cbor_described.proofs.VariantFaults.{enum_told}
use Rattle.cbor_read.specs.Source.{asks_for}
use Rattle.std.proofs.Common.{IfErr, subst}
use Rattle.cbor_described.specs.EnumMemory.{MemoryForContent}
use Rattle.cbor_described.proofs.VariantMemory.{enum_asked}
use Rattle.cbor_described.proofs.variant_list.variants_within.Goals as goal

pub returns-in-Some-clause-read : goal.returns-in-Some-clause-read
returns-in-Some-clause-read g c =
    let old = c.args.de.now.decoder in
    let mid = c.variant_at_hand.new.de.decoder in
    enum_answer (texts c.args.names.now) (λ (f : Formats). g.E.VariantList.means (context f g.R.Source.lends)) old.formats old.levels
    (g.R.Source.source old.source) (g.R.Source.source mid.source) (g.R.Source.source c.content.new.de.decoder.source) c.in-Some.index mid.levels c.in-Some.form mid.formats c.in-Some.ensures.formats g.R.Source.refusals
    c.in-Some.ensures.read c.content.result c.content.ensures.read

pub returns-in-Some-clause-form : goal.returns-in-Some-clause-form
returns-in-Some-clause-form g c =
    let r = c.content.result in
    let old = c.args.de.now.decoder in
    let mid = c.variant_at_hand.new.de.decoder in
    let began : Began (formats_of old.formats) c.in-Some.form (g.R.Source.source old.source) (g.R.Source.source mid.source) = record { names = texts c.args.names.now; levels = old.levels; left = mid.levels; index = c.in-Some.index; step = c.in-Some.ensures.opened } in
    right_err enum_form g.E.VariantList.wrong_forms _ _ r (began_err g.E.VariantList.wrong_forms old.formats mid.formats c.in-Some.form _ _ r c.in-Some.ensures.formats began c.content.ensures.form)

pub returns-in-Some-clause-fault : goal.returns-in-Some-clause-fault
returns-in-Some-clause-fault g c =
    let old = c.args.de.now.decoder in
    let mid = c.variant_at_hand.new.de.decoder in
    enum_told g.R.Source.refusals (formats_of old.formats) (texts c.args.names.now) old.levels mid.levels c.in-Some.index c.in-Some.form (g.R.Source.source old.source) (g.R.Source.source mid.source) g.E.VariantList.reports_faults c.content.result c.in-Some.ensures.opened c.content.ensures.fault

pub returns-in-Some-clause-memory : goal.returns-in-Some-clause-memory
returns-in-Some-clause-memory g c =
    let old = c.args.de.now.decoder in
    let mid = c.variant_at_hand.new.de.decoder in
    let means = λ (f : Formats). g.E.VariantList.means (context f g.R.Source.lends) in
    let a = asks_for g.R.Source.refusals g.R.Source.lends in
    let asks = g.E.VariantList.asks_memory a in
    let t = g.R.Source.source mid.source in
    let r = c.content.result in
    enum_asked (texts c.args.names.now) (means old.formats) a asks (formats_of old.formats) old.levels mid.levels c.in-Some.index c.in-Some.form (g.R.Source.source old.source) t r c.in-Some.ensures.read
    (subst (λ (f : Formats). IfErr r (MemoryForContent (asks c.in-Some.index) (formats_of f) (means f c.in-Some.index) mid.levels c.in-Some.form t)) c.in-Some.ensures.formats c.content.ensures.memory)
