use Rattle.cbor_decode_as.specs.Takes.{context, formats_of}
use Rattle.cbor_described.proofs.OneOfs.{this_unread, other_unread}
use Rattle.cbor_de.proofs.facts.Forms.{content_left, content_right}
use Rattle.cbor_decode_as.specs.Contents.{ContentFault}
use Rattle.cbor_de.proofs.facts.Faults.{first_reports, other_reports}
use Rattle.cbor_read.specs.Source.{asks_for}
use Rattle.cbor_described.proofs.VariantMemory.{this_memory, other_memory}
use Rattle.cbor_described.proofs.variant_list.OneOfReadVariants.read_variant.Goals as goal

pub returns-in-Err-clause-read : goal.returns-in-Err-clause-read
returns-in-Err-clause-read g c =
    let old = c.args.de.now.decoder in
    let k = context old.formats g.R.Source.lends in
    other_unread (g.V.Variant.means k) (g.Vs.VariantList.means k) (formats_of old.formats) old.levels c.args.form g.R.Source.refusals (g.R.Source.source old.source) (g.R.Source.source c.read_variant.new.de.decoder.source) c.args.i c.if-i-ne0.true c.in-Err.e c.in-Err.ensures.read

pub returns-in-Err-read_content-clause-read : goal.returns-in-Err-read_content-clause-read
returns-in-Err-read_content-clause-read g c =
    let old = c.args.de.now.decoder in
    let k = context old.formats g.R.Source.lends in
    rw c.if-i-ne0.false (this_unread (g.V.Variant.means k) (g.Vs.VariantList.means k) (formats_of old.formats) old.levels c.args.form g.R.Source.refusals (g.R.Source.source old.source) (g.R.Source.source c.read_content.new.de.decoder.source) c.in-Err-read_content.e c.in-Err-read_content.ensures.read)

pub returns-in-Err-clause-form : goal.returns-in-Err-clause-form
returns-in-Err-clause-form g c = content_right g.V.Variant.wrong_forms g.Vs.VariantList.wrong_forms _ c.args.form _ c.in-Err.e c.in-Err.ensures.form

pub returns-in-Err-read_content-clause-form : goal.returns-in-Err-read_content-clause-form
returns-in-Err-read_content-clause-form g c = content_left g.V.Variant.wrong_forms g.Vs.VariantList.wrong_forms _ c.args.form _ c.in-Err-read_content.e c.in-Err-read_content.ensures.form

pub returns-in-Err-clause-fault : goal.returns-in-Err-clause-fault
returns-in-Err-clause-fault g c =
    let old = c.args.de.now.decoder in
    other_reports (ContentFault g.R.Source.refusals old.levels c.args.form (g.R.Source.source old.source) c.in-Err.e) g.V.Variant.reports_faults g.Vs.VariantList.reports_faults c.in-Err.ensures.fault

pub returns-in-Err-read_content-clause-fault : goal.returns-in-Err-read_content-clause-fault
returns-in-Err-read_content-clause-fault g c =
    let old = c.args.de.now.decoder in
    first_reports (ContentFault g.R.Source.refusals old.levels c.args.form (g.R.Source.source old.source) c.in-Err-read_content.e) g.V.Variant.reports_faults g.Vs.VariantList.reports_faults c.in-Err-read_content.ensures.fault

pub returns-in-Err-clause-memory : goal.returns-in-Err-clause-memory
returns-in-Err-clause-memory g c =
    let old = c.args.de.now.decoder in
    let k = context old.formats g.R.Source.lends in
    let a = asks_for g.R.Source.refusals g.R.Source.lends in
    other_memory (formats_of old.formats) old.levels (g.R.Source.source old.source) c.in-Err.e (g.V.Variant.means k) (g.Vs.VariantList.means k) (g.V.Variant.asks_memory a) (g.Vs.VariantList.asks_memory a) c.args.form c.args.i c.if-i-ne0.true c.in-Err.ensures.memory

pub returns-in-Err-read_content-clause-memory : goal.returns-in-Err-read_content-clause-memory
returns-in-Err-read_content-clause-memory g c =
    let old = c.args.de.now.decoder in
    let k = context old.formats g.R.Source.lends in
    let a = asks_for g.R.Source.refusals g.R.Source.lends in
    rw c.if-i-ne0.false (this_memory (formats_of old.formats) old.levels (g.R.Source.source old.source) c.in-Err-read_content.e (g.V.Variant.means k) (g.Vs.VariantList.means k) (g.V.Variant.asks_memory a) (g.Vs.VariantList.asks_memory a) c.args.form c.in-Err-read_content.ensures.memory)
