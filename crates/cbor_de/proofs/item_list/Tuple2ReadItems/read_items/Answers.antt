use Rattle.std.proofs.Common.{ℕ, Ok, Err, subst}
use Rattle.cbor_decode.specs.declared.formats.Formats.{Formats}
use Rattle.cbor_decode_as.specs.Takes.{context, formats_of}
use Rattle.cbor_de.proofs.parts.ItemLists.{first_lacks, others_lack, parts_there, same_place}
use Rattle.cbor_de.proofs.refusals.Forms.{later_in, of_left, of_right}
use Rattle.cbor_de.specs.Calls.{reports_any}
use Rattle.cbor_de.specs.ItemLists.{ItemsFault}
use Rattle.cbor_de.proofs.parts.ArrayFaults.{others_fault}
use Rattle.cbor_de.proofs.refusals.Faults.{where_map}
use Rattle.cbor_de.proofs.refusals.OwnFaults.{first_reports, other_reports}
use Rattle.cbor_de.proofs.item_list.Tuple2ReadItems.read_items.Goals as goal

pub returns-in-Err-clause-read : goal.returns-in-Err-clause-read
returns-in-Err-clause-read g c =
    let old = c.args.de.now.decoder in
    let k = context old.formats g.R.Source.lends in
    first_lacks (g.A.Readable.reads k) (g.F.ItemList.parts k) (formats_of old.formats) old.levels c.args.remaining g.R.Source.refusals (g.R.Source.source old.source) (g.R.Source.source c.next_part.new.de.decoder.source) c.in-Err.e c.in-Err.ensures.read

pub returns-in-Err-clause-form : goal.returns-in-Err-clause-form
returns-in-Err-clause-form g c = of_left g.A.Readable.wrong_forms g.F.ItemList.wrong_forms _ _ _ c.in-Err.ensures.form

pub returns-in-Err-read_items-clause-read : goal.returns-in-Err-read_items-clause-read
returns-in-Err-read_items-clause-read g c =
    let old = c.args.de.now.decoder in
    let mid = c.next_part.new.de.decoder in
    let k = context old.formats g.R.Source.lends in
    let s = g.R.Source.source old.source in
    let m = g.R.Source.source mid.source in
    let t = g.R.Source.source c.read_items.new.de.decoder.source in
    let e = c.in-Err-read_items.e in
    let read = same_place (λ (f : Formats). g.F.ItemList.parts (context f g.R.Source.lends)) old.formats mid.formats old.levels mid.levels c.next_part.ensures.settings.formats c.next_part.ensures.settings.levels g.R.Source.refusals c.next_part.new.remaining m t (Err e) c.in-Err-read_items.ensures.read in
    others_lack (g.A.Readable.reads k) (g.F.ItemList.parts k) (formats_of old.formats) old.levels c.args.remaining g.R.Source.refusals c.next_part.new.remaining s m c.in-Ok.first c.in-Ok.ensures.read t e read

pub returns-in-Err-read_items-clause-form : goal.returns-in-Err-read_items-clause-form
returns-in-Err-read_items-clause-form g c =
    let behind = later_in g.F.ItemList.wrong_forms c.args.de.now.decoder.formats c.next_part.new.de.decoder.formats _ _ c.in-Err-read_items.e c.next_part.ensures.settings.formats c.in-Ok.ensures.read.took c.in-Err-read_items.ensures.form in
    of_right g.A.Readable.wrong_forms g.F.ItemList.wrong_forms _ _ _ behind

pub returns-in-Ok-read_items-clause-read : goal.returns-in-Ok-read_items-clause-read
returns-in-Ok-read_items-clause-read g c =
    let old = c.args.de.now.decoder in
    let mid = c.next_part.new.de.decoder in
    let k = context old.formats g.R.Source.lends in
    let s = g.R.Source.source old.source in
    let m = g.R.Source.source mid.source in
    let t = g.R.Source.source c.read_items.new.de.decoder.source in
    let y = c.in-Ok-read_items.others in
    let read = same_place (λ (f : Formats). g.F.ItemList.parts (context f g.R.Source.lends)) old.formats mid.formats old.levels mid.levels c.next_part.ensures.settings.formats c.next_part.ensures.settings.levels g.R.Source.refusals c.next_part.new.remaining m t (Ok y) c.in-Ok-read_items.ensures.read in
    parts_there (g.A.Readable.reads k) (g.F.ItemList.parts k) (formats_of old.formats) old.levels c.args.remaining g.R.Source.refusals c.next_part.new.remaining s m c.in-Ok.first c.in-Ok.ensures.read t y read

-- ---- the fault

pub returns-in-Err-clause-fault : goal.returns-in-Err-clause-fault
returns-in-Err-clause-fault g c =
    let old = c.args.de.now.decoder in
    let a = g.A.Readable in
    first_reports (ItemsFault g.R.Source.refusals old.levels c.args.remaining (g.R.Source.source old.source) c.in-Err.e) (reports_any a.passes_over a.total a.reports_faults) g.F.ItemList.reports_faults c.in-Err.ensures.fault

pub returns-in-Err-read_items-clause-fault : goal.returns-in-Err-read_items-clause-fault
returns-in-Err-read_items-clause-fault g c =
    let old = c.args.de.now.decoder in
    let mid = c.next_part.new.de.decoder in
    let a = g.A.Readable in
    let s = g.R.Source.source old.source in
    let m = g.R.Source.source mid.source in
    let e = c.in-Err-read_items.e in
    let new = c.next_part.new.remaining in
    let b = g.F.ItemList.reports_faults in
    other_reports (ItemsFault g.R.Source.refusals old.levels c.args.remaining s e) (reports_any a.passes_over a.total a.reports_faults) b
    (where_map b (λ h. others_fault g.R.Source.refusals e old.levels c.args.remaining s (a.reads (context old.formats g.R.Source.lends)) (formats_of old.formats) new c.in-Ok.first m c.in-Ok.ensures.read
    (subst (λ (n : ℕ). ItemsFault g.R.Source.refusals n new m e) c.next_part.ensures.settings.levels h)) c.in-Err-read_items.ensures.fault)
