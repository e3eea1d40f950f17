use Rattle.cbor_read.specs.Source.{asks_for}
use Rattle.cbor_decode.specs.declared.formats.Formats.{Formats}
use Rattle.cbor_decode_as.specs.Takes.{context}
use Rattle.cbor_de.specs.Calls.{reports_any}
use Rattle.cbor_de.proofs.facts.Faults.{own_err_gathered}
use Rattle.cbor_described.proofs.Gathered.{memory_gathered, slot_gathered}
use Rattle.cbor_described.proofs.field_slot.AnyReadField.take_slot.Goals as goal

pub returns-clause-read : goal.returns-clause-read
returns-clause-read g c =
    let old = c.args.de.now.decoder in
    let mid = c.slot_gathered.new.de.decoder in
    let none = c.if-slot_gathered.ensures in
    slot_gathered _ _ none.read g.R.Source.refusals old.formats mid.formats none.settings.formats (λ (f : Formats). g.A.FieldType.reads (context f g.R.Source.lends)) old.levels mid.levels none.settings.levels c.args.slot.now c.slot_gathered.new.slot c.fill_slot.new.slot none.held _ c.fill_slot.result c.fill_slot.ensures.read

pub returns-clause-fault : goal.returns-clause-fault
returns-clause-fault g c =
    let old = c.args.de.now.decoder in
    let mid = c.slot_gathered.new.de.decoder in
    let none = c.if-slot_gathered.ensures in
    let of = g.A.Of.Readable in
    own_err_gathered (g.R.Source.source old.source) (g.R.Source.source mid.source) none.read g.R.Source.refusals old.levels mid.levels none.settings.levels (reports_any of.passes_over of.total of.reports_faults) c.fill_slot.result c.fill_slot.ensures.fault

pub returns-clause-memory : goal.returns-clause-memory
returns-clause-memory g c =
    let old = c.args.de.now.decoder in
    let mid = c.slot_gathered.new.de.decoder in
    let none = c.if-slot_gathered.ensures in
    let lends = g.R.Source.lends in
    memory_gathered _ _ none.read g.R.Source.refusals (g.A.Of.Readable.asks_memory (asks_for g.R.Source.refusals lends)) old.formats mid.formats none.settings.formats (λ (f : Formats). g.A.FieldType.reads (context f lends)) old.levels mid.levels none.settings.levels c.args.slot.now c.slot_gathered.new.slot none.held c.fill_slot.result c.fill_slot.ensures.memory
