use Rattle.std.proofs.Common.{false, ◌≡◌, ℕ, Some, None, refl, sym, ap, subst, arith}
use Rattle.cbor_model.specs.Raw.{Raw}
use Rattle.cbor_model.specs.Reader.{item_at}
use Rattle.cbor_convert.specs.Tagged.{IsTagged, StandsNoTag}
use Rattle.cbor_read.specs.Source.{Input, asks_for}
use Rattle.cbor_io.specs.Error.{code_of, offset_of}
use Rattle.cbor_decode.specs.Gives.{Step}
use Rattle.cbor_decode.specs.declared.formats.Formats.{Formats}
use Rattle.cbor_decode_as.specs.Takes.{raws, context, formats_of, IsRead, MemoryFor, IsNotRead, ItemFault, Refuses, ReportsItem}
use Rattle.cbor_convert.specs.declared.tagged.Tagged.{Tagged}
use Rattle.cbor_convert.proofs.Tags.{tag_read, tag_asks, tag_unread, untagged_asks, untagged_taken, untagged_refused, head_refused, tag_reported, untagged_reported, head_reported}
use Rattle.cbor_decode.proofs.facts.Steps.{took_same}
use Rattle.cbor_convert.proofs.TagFaults.{head_fault, tag_fault, untagged_fault}
use Rattle.cbor_decode_as.proofs.facts.Refusals.{always, item_total, refuses_on}
use Rattle.cbor_de.specs.Calls.{reports_any}
use Rattle.cbor_de.proofs.facts.Faults.{item_fault}
use Rattle.cbor_de.proofs.facts.Forms.{later_in}
use Rattle.cbor_de.proofs.facts.Readings.{where_map}
use Rattle.cbor_convert.proofs.tagged.TaggedDeserialize.deserialize.Goals as goal

pub leave_tag-requires : goal.leave_tag-requires
leave_tag-requires g c =
    let one = rw c.in-Ok-Some.field-0-is at c.in-Ok-Some.ensures.levels in
    omega (arith, one, c.deserialize-value.ensures.settings.levels)

pub returns-in-Ok-clause-read : goal.returns-in-Ok-clause-read
returns-in-Ok-clause-read g c =
    let old = c.args.de.now in
    let mid = c.outermost.new.de in
    let after = c.deserialize-value.new.de in
    let s = g.R.Source.source old.decoder.source in
    let m = g.R.Source.source mid.decoder.source in
    let t = g.R.Source.source after.decoder.source in
    let f = formats_of old.decoder.formats in
    let reads = g.T.Readable.reads (context old.decoder.formats g.R.Source.lends) in
    let n = c.in-Ok-Some.tag in
    let one = rw c.in-Ok-Some.field-0-is at c.in-Ok-Some.ensures.levels in
    let tag = rw c.in-Ok-Some.field-0-is at c.in-Ok-Some.ensures.item in
    let taken = subst (λ (k : Formats). Step m t (λ l bs rest. IsRead (g.T.Readable.reads (context k g.R.Source.lends)) (item_at (raws (formats_of k) l) mid.decoder.levels bs) c.in-Ok.value rest)) c.in-Ok-Some.ensures.formats c.in-Ok.ensures.read in
    let whole : Tagged g.row.T.Denot = record { tag = Some n; value = c.in-Ok.value } in
    subst (λ (u : Input). Step s u (λ l bs rest. IsRead (λ (r : Raw) (w : Tagged g.row.T.Denot). IsTagged reads r w.tag w.value) (item_at (raws f l) old.decoder.levels bs) whole rest)) (sym (ap g.R.Source.source c.leave_tag.ensures.source))
    (tag_read f old.decoder.levels mid.decoder.levels n one reads (λ (w : Tagged g.row.T.Denot). w.tag) (λ (w : Tagged g.row.T.Denot). w.value) s m t whole refl tag taken)

pub returns-in-Err-value-clause-read : goal.returns-in-Err-value-clause-read
returns-in-Err-value-clause-read g c =
    let old = c.args.de.now in
    let mid = c.outermost.new.de in
    let s = g.R.Source.source old.decoder.source in
    let m = g.R.Source.source mid.decoder.source in
    let f = formats_of old.decoder.formats in
    let reads = g.T.Readable.reads (context old.decoder.formats g.R.Source.lends) in
    let t = g.R.Source.source c.deserialize-value.new.de.decoder.source in
    let k = code_of c.in-Err-value.e in
    let at = offset_of c.in-Err-value.e in
    let one = rw c.in-Ok-Some.field-0-is at c.in-Ok-Some.ensures.levels in
    let tag = rw c.in-Ok-Some.field-0-is at c.in-Ok-Some.ensures.item in
    let stops = subst (λ (q : Formats). Refuses g.R.Source.refusals m t k at (λ l bs. IsNotRead (g.T.Readable.reads (context q g.R.Source.lends)) (item_at (raws (formats_of q) l) mid.decoder.levels bs))) c.in-Ok-Some.ensures.formats c.in-Err-value.ensures.read in
    refuses_on (tag_unread f old.decoder.levels mid.decoder.levels c.in-Ok-Some.tag one reads (λ (w : Tagged g.row.T.Denot). w.tag) (λ (w : Tagged g.row.T.Denot). w.value) g.R.Source.refusals s m k at tag stops)
    (took_same (ap g.R.Source.source c.leave_tag.ensures.source))

pub returns-in-Ok-deserialize-clause-read : goal.returns-in-Ok-deserialize-clause-read
returns-in-Ok-deserialize-clause-read g c =
    let old = c.args.de.now in
    let mid = c.outermost.new.de in
    let s = g.R.Source.source old.decoder.source in
    let m = g.R.Source.source mid.decoder.source in
    let t = g.R.Source.source c.deserialize.new.de.decoder.source in
    let f = formats_of old.decoder.formats in
    let reads = g.T.Readable.reads (context old.decoder.formats g.R.Source.lends) in
    let levels : mid.decoder.levels ≡ old.decoder.levels = rw c.in-Ok-None.field-0-is at c.in-Ok-None.ensures.levels in
    let none : StandsNoTag s m = rw c.in-Ok-None.field-0-is at c.in-Ok-None.ensures.none in
    let x = c.in-Ok-deserialize.value in
    let taken = subst (λ (n : ℕ). Step m t (λ l bs rest. IsRead reads (item_at (raws f l) n bs) x rest)) levels
    (subst (λ (k : Formats). Step m t (λ l bs rest. IsRead (g.T.Readable.reads (context k g.R.Source.lends)) (item_at (raws (formats_of k) l) mid.decoder.levels bs) x rest)) c.in-Ok-None.ensures.formats c.in-Ok-deserialize.ensures.read) in
    let whole : Tagged g.row.T.Denot = record { tag = None; value = x } in
    untagged_taken reads (λ (w : Tagged g.row.T.Denot). w.tag) (λ (w : Tagged g.row.T.Denot). w.value) f old.decoder.levels s m t whole refl none taken

pub returns-in-Err-deserialize-clause-read : goal.returns-in-Err-deserialize-clause-read
returns-in-Err-deserialize-clause-read g c =
    let old = c.args.de.now in
    let mid = c.outermost.new.de in
    let s = g.R.Source.source old.decoder.source in
    let m = g.R.Source.source mid.decoder.source in
    let f = formats_of old.decoder.formats in
    let reads = g.T.Readable.reads (context old.decoder.formats g.R.Source.lends) in
    let levels : mid.decoder.levels ≡ old.decoder.levels = rw c.in-Ok-None.field-0-is at c.in-Ok-None.ensures.levels in
    let none : StandsNoTag s m = rw c.in-Ok-None.field-0-is at c.in-Ok-None.ensures.none in
    let t = g.R.Source.source c.deserialize.new.de.decoder.source in
    let k = code_of c.in-Err-deserialize.e in
    let at = offset_of c.in-Err-deserialize.e in
    let stops = subst (λ (n : ℕ). Refuses g.R.Source.refusals m t k at (λ l bs. IsNotRead reads (item_at (raws f l) n bs))) levels
    (subst (λ (q : Formats). Refuses g.R.Source.refusals m t k at (λ l bs. IsNotRead (g.T.Readable.reads (context q g.R.Source.lends)) (item_at (raws (formats_of q) l) mid.decoder.levels bs))) c.in-Ok-None.ensures.formats c.in-Err-deserialize.ensures.read) in
    untagged_refused reads (λ (w : Tagged g.row.T.Denot). w.tag) (λ (w : Tagged g.row.T.Denot). w.value) f old.decoder.levels g.R.Source.refusals s m k at none stops

pub returns-in-Err-clause-read : goal.returns-in-Err-clause-read
returns-in-Err-clause-read g c =
    let old = c.args.de.now in
    head_refused (g.T.Readable.reads (context old.decoder.formats g.R.Source.lends)) (λ (w : Tagged g.row.T.Denot). w.tag) (λ (w : Tagged g.row.T.Denot). w.value) (formats_of old.decoder.formats) old.decoder.levels g.R.Source.refusals (g.R.Source.source old.decoder.source) c.in-Err.e c.in-Err.ensures.read.0 c.in-Err.ensures.read.1

pub returns-in-Err-value-clause-fault : goal.returns-in-Err-value-clause-fault
returns-in-Err-value-clause-fault g c =
    let old = c.args.de.now in
    let mid = c.outermost.new.de in
    let s = g.R.Source.source old.decoder.source in
    let m = g.R.Source.source mid.decoder.source in
    let f = formats_of old.decoder.formats in
    let total = g.T.Readable.total in
    let e = c.in-Err-value.e in
    let one = rw c.in-Ok-Some.field-0-is at c.in-Ok-Some.ensures.levels in
    let tag = rw c.in-Ok-Some.field-0-is at c.in-Ok-Some.ensures.item in
    tag_reported total g.R.Source.refusals f old.decoder.levels s m e mid.decoder.levels c.in-Ok-Some.tag one tag
    (subst (λ (k : Formats). ReportsItem false total g.R.Source.refusals (formats_of k) mid.decoder.levels m e) c.in-Ok-Some.ensures.formats (item_total g.T.Readable.passes_over total g.R.Source.refusals (formats_of mid.decoder.formats) mid.decoder.levels m e c.in-Err-value.ensures.fault))

pub returns-in-Err-deserialize-clause-fault : goal.returns-in-Err-deserialize-clause-fault
returns-in-Err-deserialize-clause-fault g c =
    let old = c.args.de.now in
    let mid = c.outermost.new.de in
    let s = g.R.Source.source old.decoder.source in
    let m = g.R.Source.source mid.decoder.source in
    let f = formats_of old.decoder.formats in
    let total = g.T.Readable.total in
    let e = c.in-Err-deserialize.e in
    let levels : mid.decoder.levels ≡ old.decoder.levels = rw c.in-Ok-None.field-0-is at c.in-Ok-None.ensures.levels in
    let none : StandsNoTag s m = rw c.in-Ok-None.field-0-is at c.in-Ok-None.ensures.none in
    let there = subst (λ (k : Formats). ReportsItem false total g.R.Source.refusals (formats_of k) mid.decoder.levels m e) c.in-Ok-None.ensures.formats (item_total g.T.Readable.passes_over total g.R.Source.refusals (formats_of mid.decoder.formats) mid.decoder.levels m e c.in-Err-deserialize.ensures.fault) in
    untagged_reported total g.R.Source.refusals f old.decoder.levels s m e none
    (subst (λ (n : ℕ). ReportsItem false total g.R.Source.refusals f n m e) levels there)

pub returns-in-Err-clause-fault : goal.returns-in-Err-clause-fault
returns-in-Err-clause-fault g c =
    let old = c.args.de.now in
    head_reported g.T.Readable.total g.R.Source.refusals (formats_of old.decoder.formats) old.decoder.levels (g.R.Source.source old.decoder.source) c.in-Err.e c.in-Err.ensures.read.1

-- ---- the fault of the bytes

pub returns-in-Err-value-clause-own_fault : goal.returns-in-Err-value-clause-own_fault
returns-in-Err-value-clause-own_fault g c =
    let old = c.args.de.now.decoder in
    let mid = c.outermost.new.de.decoder in
    let m = g.R.Source.source mid.source in
    let t = g.T.Readable in
    let e = c.in-Err-value.e in
    let one = rw c.in-Ok-Some.field-0-is at c.in-Ok-Some.ensures.levels in
    let head = rw c.in-Ok-Some.field-0-is at c.in-Ok-Some.ensures.read in
    where_map (reports_any t.passes_over t.total t.reports_faults) (tag_fault g.R.Source.refusals old.levels (g.R.Source.source old.source) e mid.levels c.in-Ok-Some.tag one m head)
    (item_fault g.R.Source.refusals m e mid.levels (formats_of mid.formats) t.passes_over t.total t.reports_faults c.in-Err-value.ensures.fault c.in-Err-value.ensures.own_fault)

pub returns-in-Err-deserialize-clause-own_fault : goal.returns-in-Err-deserialize-clause-own_fault
returns-in-Err-deserialize-clause-own_fault g c =
    let old = c.args.de.now.decoder in
    let mid = c.outermost.new.de.decoder in
    let s = g.R.Source.source old.source in
    let m = g.R.Source.source mid.source in
    let t = g.T.Readable in
    let e = c.in-Err-deserialize.e in
    let levels : mid.levels ≡ old.levels = rw c.in-Ok-None.field-0-is at c.in-Ok-None.ensures.levels in
    let none : StandsNoTag s m = rw c.in-Ok-None.field-0-is at c.in-Ok-None.ensures.none in
    let there = item_fault g.R.Source.refusals m e mid.levels (formats_of mid.formats) t.passes_over t.total t.reports_faults c.in-Err-deserialize.ensures.fault c.in-Err-deserialize.ensures.own_fault in
    where_map (reports_any t.passes_over t.total t.reports_faults) (λ here. untagged_fault g.R.Source.refusals old.levels s e m none (subst (λ (n : ℕ). ItemFault g.R.Source.refusals n m e) levels here)) there

pub returns-in-Err-clause-own_fault : goal.returns-in-Err-clause-own_fault
returns-in-Err-clause-own_fault g c =
    let old = c.args.de.now.decoder in
    let t = g.T.Readable in
    always (reports_any t.passes_over t.total t.reports_faults) (head_fault g.R.Source.refusals old.levels (g.R.Source.source old.source) c.in-Err.e c.in-Err.ensures.read.1)

-- ---- a wrong form

pub returns-in-Err-value-clause-form : goal.returns-in-Err-value-clause-form
returns-in-Err-value-clause-form g c =
    let tag = rw c.in-Ok-Some.field-0-is at c.in-Ok-Some.ensures.item in
    later_in g.T.Readable.wrong_forms c.args.de.now.decoder.formats c.outermost.new.de.decoder.formats _ _ c.in-Err-value.e c.in-Ok-Some.ensures.formats tag.took c.in-Err-value.ensures.form

pub returns-in-Err-deserialize-clause-form : goal.returns-in-Err-deserialize-clause-form
returns-in-Err-deserialize-clause-form g c =
    let old = c.args.de.now in
    let mid = c.outermost.new.de in
    let none : StandsNoTag (g.R.Source.source old.decoder.source) (g.R.Source.source mid.decoder.source) = rw c.in-Ok-None.field-0-is at c.in-Ok-None.ensures.none in
    later_in g.T.Readable.wrong_forms old.decoder.formats mid.decoder.formats _ _ c.in-Err-deserialize.e c.in-Ok-None.ensures.formats none.took c.in-Err-deserialize.ensures.form

-- ---- memory

pub returns-in-Err-value-clause-memory : goal.returns-in-Err-value-clause-memory
returns-in-Err-value-clause-memory g c =
    let old = c.args.de.now in
    let mid = c.outermost.new.de in
    let s = g.R.Source.source old.decoder.source in
    let m = g.R.Source.source mid.decoder.source in
    let reads = g.T.Readable.reads (context old.decoder.formats g.R.Source.lends) in
    let asks = g.T.Readable.asks_memory (asks_for g.R.Source.refusals g.R.Source.lends) in
    let e = c.in-Err-value.e in
    let one = rw c.in-Ok-Some.field-0-is at c.in-Ok-Some.ensures.levels in
    let tag = rw c.in-Ok-Some.field-0-is at c.in-Ok-Some.ensures.item in
    tag_asks (formats_of old.decoder.formats) old.decoder.levels mid.decoder.levels c.in-Ok-Some.tag one reads (λ (w : Tagged g.row.T.Denot). w.tag) (λ (w : Tagged g.row.T.Denot). w.value) asks s m e tag
    (subst (λ (k : Formats). MemoryFor asks (formats_of k) (g.T.Readable.reads (context k g.R.Source.lends)) mid.decoder.levels m e) c.in-Ok-Some.ensures.formats c.in-Err-value.ensures.memory)

pub returns-in-Err-deserialize-clause-memory : goal.returns-in-Err-deserialize-clause-memory
returns-in-Err-deserialize-clause-memory g c =
    let old = c.args.de.now in
    let mid = c.outermost.new.de in
    let s = g.R.Source.source old.decoder.source in
    let m = g.R.Source.source mid.decoder.source in
    let f = formats_of old.decoder.formats in
    let reads = g.T.Readable.reads (context old.decoder.formats g.R.Source.lends) in
    let asks = g.T.Readable.asks_memory (asks_for g.R.Source.refusals g.R.Source.lends) in
    let e = c.in-Err-deserialize.e in
    let levels : mid.decoder.levels ≡ old.decoder.levels = rw c.in-Ok-None.field-0-is at c.in-Ok-None.ensures.levels in
    let none : StandsNoTag s m = rw c.in-Ok-None.field-0-is at c.in-Ok-None.ensures.none in
    let there = subst (λ (k : Formats). MemoryFor asks (formats_of k) (g.T.Readable.reads (context k g.R.Source.lends)) mid.decoder.levels m e) c.in-Ok-None.ensures.formats c.in-Err-deserialize.ensures.memory in
    untagged_asks reads (λ (w : Tagged g.row.T.Denot). w.tag) (λ (w : Tagged g.row.T.Denot). w.value) f old.decoder.levels asks s m e none
    (subst (λ (n : ℕ). MemoryFor asks f reads n m e) levels there)
