use Rattle.cbor_io.specs.Error.{code_of, offset_of}
use Rattle.cbor_read.specs.Source.{asks_for}
use Rattle.cbor_decode.specs.declared.formats.Formats.{Formats}
use Rattle.cbor_decode_as.specs.Takes.{context, formats_of}
use Rattle.cbor_decode_as.proofs.facts.Arrays.{comes, item_asks, item_refused, item_next}
use Rattle.cbor_de.proofs.refusals.Forms.{later_in}
use Rattle.std.proofs.Common.{inl, inr}
use Rattle.cbor_de.proofs.refusals.AccessFaults.{item_comes}
use Rattle.cbor_decode_as.proofs.facts.Refusals.{always}
use Rattle.cbor_de.specs.Calls.{reports_any}
use Rattle.cbor_de.proofs.parts.ArrayFaults.{came_where, next_fault}
use Rattle.cbor_de.proofs.refusals.OwnFaults.{item_fault}
use Rattle.cbor_de.proofs.sequence.SeqAccess.next_element.Goals as goal

pub returns-in-Err-deserialize-clause-read : goal.returns-in-Err-deserialize-clause-read
returns-in-Err-deserialize-clause-read g c =
    let old = c.args.self.now in
    let now = c.more_items.new.decoder in
    let s = g.R.Source.source old.de.now.decoder.source in
    let m = g.R.Source.source now.source in
    let reads = λ (f : Formats). g.T.Readable.reads (context f g.R.Source.lends) in
    let new = c.more_items.new.remaining in
    let more = c.in-Ok-true.field-0 in
    let e = c.in-Err-deserialize.e in
    item_refused s m old.remaining new more reads old.de.now.decoder.formats now.formats old.de.now.decoder.levels now.levels c.more_items.ensures.settings.formats c.more_items.ensures.settings.levels
    g.R.Source.refusals (code_of e) (offset_of e) (comes s m old.remaining new more c.in-Ok-true.field-0-test c.in-Ok-true.ensures.read) c.in-Err-deserialize.ensures.read

pub returns-in-Ok-clause-read : goal.returns-in-Ok-clause-read
returns-in-Ok-clause-read g c =
    let old = c.args.self.now in
    let now = c.more_items.new.decoder in
    let s = g.R.Source.source old.de.now.decoder.source in
    let m = g.R.Source.source now.source in
    let t = g.R.Source.source c.deserialize.new.de.decoder.source in
    let reads = λ (f : Formats). g.T.Readable.reads (context f g.R.Source.lends) in
    let new = c.more_items.new.remaining in
    let more = c.in-Ok-true.field-0 in
    item_next s m old.remaining new more reads old.de.now.decoder.formats now.formats old.de.now.decoder.levels now.levels c.more_items.ensures.settings.formats c.more_items.ensures.settings.levels t c.in-Ok.item
    (comes s m old.remaining new more c.in-Ok-true.field-0-test c.in-Ok-true.ensures.read) c.in-Ok.ensures.read

pub returns-in-Err-deserialize-clause-form : goal.returns-in-Err-deserialize-clause-form
returns-in-Err-deserialize-clause-form g c =
    later_in g.T.Readable.wrong_forms c.args.self.now.de.now.decoder.formats c.more_items.new.decoder.formats _ _ c.in-Err-deserialize.e c.more_items.ensures.settings.formats c.in-Ok-true.ensures.read.took c.in-Err-deserialize.ensures.form

pub returns-in-Err-deserialize-clause-memory : goal.returns-in-Err-deserialize-clause-memory
returns-in-Err-deserialize-clause-memory g c =
    let old = c.args.self.now in
    let now = c.more_items.new.decoder in
    let s = g.R.Source.source old.de.now.decoder.source in
    let m = g.R.Source.source now.source in
    let reads = λ (f : Formats). g.T.Readable.reads (context f g.R.Source.lends) in
    let new = c.more_items.new.remaining in
    let more = c.in-Ok-true.field-0 in
    item_asks s m old.remaining new more reads old.de.now.decoder.formats now.formats old.de.now.decoder.levels now.levels c.more_items.ensures.settings.formats c.more_items.ensures.settings.levels
    (g.T.Readable.asks_memory (asks_for g.R.Source.refusals g.R.Source.lends)) c.in-Err-deserialize.e (comes s m old.remaining new more c.in-Ok-true.field-0-test c.in-Ok-true.ensures.read) c.in-Err-deserialize.ensures.memory

-- ---- the fault

pub returns-in-Err-clause-fault : goal.returns-in-Err-clause-fault
returns-in-Err-clause-fault g c = inl c.in-Err.ensures.fault

pub returns-in-Err-deserialize-clause-fault : goal.returns-in-Err-deserialize-clause-fault
returns-in-Err-deserialize-clause-fault g c =
    let old = c.args.self.now in
    let now = c.more_items.new.decoder in
    let s = g.R.Source.source old.de.now.decoder.source in
    let m = g.R.Source.source now.source in
    let new = c.more_items.new.remaining in
    let more = c.in-Ok-true.field-0 in
    inr (item_comes g.T.Readable.passes_over g.T.Readable.total g.R.Source.refusals old.de.now.decoder.formats now.formats old.remaining new s m old.de.now.decoder.levels now.levels c.in-Err-deserialize.e c.more_items.ensures.settings.formats c.more_items.ensures.settings.levels
    (comes s m old.remaining new more c.in-Ok-true.field-0-test c.in-Ok-true.ensures.read) c.in-Err-deserialize.ensures.fault)

pub returns-in-Err-clause-own_fault : goal.returns-in-Err-clause-own_fault
returns-in-Err-clause-own_fault g c =
    let old = c.args.self.now in
    let t = g.T.Readable in
    always (reports_any t.passes_over t.total t.reports_faults) (next_fault g.R.Source.refusals c.in-Err.e old.de.now.decoder.levels old.remaining (g.R.Source.source old.de.now.decoder.source) c.in-Err.ensures.fault)

pub returns-in-Err-deserialize-clause-own_fault : goal.returns-in-Err-deserialize-clause-own_fault
returns-in-Err-deserialize-clause-own_fault g c =
    let old = c.args.self.now in
    let now = c.more_items.new.decoder in
    let s = g.R.Source.source old.de.now.decoder.source in
    let m = g.R.Source.source now.source in
    let new = c.more_items.new.remaining in
    let t = g.T.Readable in
    let e = c.in-Err-deserialize.e in
    came_where g.R.Source.refusals e old.de.now.decoder.levels old.remaining s (reports_any t.passes_over t.total t.reports_faults) new m now.levels c.more_items.ensures.settings.levels
    (comes s m old.remaining new c.in-Ok-true.field-0 c.in-Ok-true.field-0-test c.in-Ok-true.ensures.read)
    (item_fault g.R.Source.refusals m e now.levels (formats_of now.formats) t.passes_over t.total t.reports_faults c.in-Err-deserialize.ensures.fault c.in-Err-deserialize.ensures.own_fault)
