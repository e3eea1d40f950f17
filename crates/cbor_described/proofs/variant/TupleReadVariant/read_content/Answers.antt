use Rattle.std.proofs.Common.{Ok, Err, subst}
use Rattle.std.proofs.lemmas.Result.{err_from_is_err_and}
use Rattle.cbor_decode.specs.declared.formats.Formats.{Formats}
use Rattle.cbor_decode_as.specs.Enums.{AreParts}
use Rattle.cbor_de.specs.ItemLists.{TakesItems}
use Rattle.cbor_decode_as.specs.Takes.{context, formats_of}
use Rattle.cbor_described.proofs.OneOfs.{entered_reports}
use Rattle.cbor_described.proofs.OneOfs.{content_made, content_not_made, no_parts, parts_meant, parts_not_meant}
use Rattle.cbor_de.proofs.facts.Forms.{content_later}
use Rattle.cbor_decode_as.proofs.facts.Refusals.{always}
use Rattle.cbor_decode_as.proofs.facts.Enums.{parts_content}
use Rattle.cbor_described.proofs.VariantFaults.{parts_told, where_then}
use Rattle.cbor_described.proofs.VariantMemory.{parts_memory}
use Rattle.cbor_described.proofs.variant.TupleReadVariant.read_content.Goals as goal

pub returns-in_err-remaining-clause-read : goal.returns-in_err-remaining-clause-read
returns-in_err-remaining-clause-read g c =
    let passed = err_from_is_err_and c.from_residual.result c.from_residual.ensures.1 in
    let old = c.args.de.now.decoder in
    let items = g.F.ReadableTuple.parts (context old.formats g.R.Source.lends) in
    let s = g.R.Source.source old.source in
    let t = g.R.Source.source c.parts.new.de.decoder.source in
    let e = c.in_err-remaining.field-0.0 in
    rw (passed.1, passed.2) (content_not_made (formats_of old.formats) old.levels c.args.form g.R.Source.refusals s t (AreParts items) (λ content y. AreParts items content y.0) e (λ content y h. (y.0, h))
    (no_parts items (formats_of old.formats) old.levels c.args.form g.R.Source.refusals s e c.in_err-remaining.ensures.read))

pub returns-in-Ok-clause-read : goal.returns-in-Ok-clause-read
returns-in-Ok-clause-read g c =
    let old = c.args.de.now.decoder in
    let mid = c.parts.new.de.decoder in
    let items = λ (f : Formats). g.F.ReadableTuple.parts (context f g.R.Source.lends) in
    let s = g.R.Source.source old.source in
    let m = g.R.Source.source mid.source in
    let t = g.R.Source.source c.read_tuple.new.de.decoder.source in
    let y = c.in-Ok.parts in
    let read = subst (λ (f : Formats). TakesItems g.R.Source.refusals (formats_of f) (items f) mid.levels c.in_ok-remaining.remaining m t (Ok y)) c.in_ok-remaining.ensures.formats c.in-Ok.ensures.read in
    content_made (formats_of old.formats) old.levels c.args.form g.R.Source.refusals s t (AreParts (items old.formats)) (λ content y. AreParts (items old.formats) content y.0) y (record { 0 = y }) (λ content h. h)
    (parts_meant (items old.formats) (formats_of old.formats) old.levels c.args.form g.R.Source.refusals s m t mid.levels c.in_ok-remaining.remaining c.in_ok-remaining.ensures.read y read)

pub returns-in-Err-clause-read : goal.returns-in-Err-clause-read
returns-in-Err-clause-read g c =
    let old = c.args.de.now.decoder in
    let mid = c.parts.new.de.decoder in
    let items = λ (f : Formats). g.F.ReadableTuple.parts (context f g.R.Source.lends) in
    let s = g.R.Source.source old.source in
    let m = g.R.Source.source mid.source in
    let t = g.R.Source.source c.read_tuple.new.de.decoder.source in
    let e = c.in-Err.e in
    let read = subst (λ (f : Formats). TakesItems g.R.Source.refusals (formats_of f) (items f) mid.levels c.in_ok-remaining.remaining m t (Err e)) c.in_ok-remaining.ensures.formats c.in-Err.ensures.read in
    content_not_made (formats_of old.formats) old.levels c.args.form g.R.Source.refusals s t (AreParts (items old.formats)) (λ content y. AreParts (items old.formats) content y.0) e (λ content y h. (y.0, h))
    (parts_not_meant (items old.formats) (formats_of old.formats) old.levels c.args.form g.R.Source.refusals s m t mid.levels c.in_ok-remaining.remaining c.in_ok-remaining.ensures.read e read)

pub returns-in-Err-clause-form : goal.returns-in-Err-clause-form
returns-in-Err-clause-form g c =
    content_later g.F.ReadableTuple.wrong_forms c.args.de.now.decoder.formats c.parts.new.de.decoder.formats c.args.form _ _ c.in-Err.e c.in_ok-remaining.ensures.formats c.in_ok-remaining.ensures.read.took c.in-Err.ensures.form

pub returns-in-Err-clause-alone : goal.returns-in-Err-clause-alone
returns-in-Err-clause-alone g c =
    entered_reports _ c.args.form _ _ c.in-Err.e c.in_ok-remaining.ensures.inside

pub returns-in_err-remaining-clause-fault : goal.returns-in_err-remaining-clause-fault
returns-in_err-remaining-clause-fault g c =
    let passed = err_from_is_err_and c.from_residual.result c.from_residual.ensures.1 in
    let old = c.args.de.now.decoder in
    rw (passed.1, passed.2) (always g.F.ReadableTuple.reports_faults
    (parts_content g.R.Source.refusals old.levels c.args.form (g.R.Source.source old.source) c.in_err-remaining.field-0.0 c.in_err-remaining.ensures.fault))

pub returns-in-Err-clause-fault : goal.returns-in-Err-clause-fault
returns-in-Err-clause-fault g c =
    let old = c.args.de.now.decoder in
    let mid = c.parts.new.de.decoder in
    where_then g.F.ReadableTuple.reports_faults
    (parts_told g.R.Source.refusals old.levels mid.levels c.args.form c.in_ok-remaining.remaining (g.R.Source.source old.source) (g.R.Source.source mid.source) c.in-Err.e c.in_ok-remaining.ensures.opened) c.in-Err.ensures.fault

pub returns-in_err-remaining-clause-memory : goal.returns-in_err-remaining-clause-memory
returns-in_err-remaining-clause-memory g c =
    let passed = err_from_is_err_and c.from_residual.result c.from_residual.ensures.1 in
    let old = c.args.de.now.decoder in
    rw (passed.1, passed.2) (parts_memory (formats_of old.formats) old.levels (g.R.Source.source old.source) c.in_err-remaining.field-0.0 c.args.form (g.F.ReadableTuple.parts (context old.formats g.R.Source.lends)) (λ y. y.0))

pub returns-in-Err-clause-memory : goal.returns-in-Err-clause-memory
returns-in-Err-clause-memory g c =
    let old = c.args.de.now.decoder in
    parts_memory (formats_of old.formats) old.levels (g.R.Source.source old.source) c.in-Err.e c.args.form (g.F.ReadableTuple.parts (context old.formats g.R.Source.lends)) (λ y. y.0)
