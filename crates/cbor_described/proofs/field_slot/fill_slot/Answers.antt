use Rattle.std.proofs.Common.{◌≡◌, false}
use Rattle.std.specs.Option.{is_some}
use Rattle.cbor_model.specs.Reader.{item_at}
use Rattle.cbor_io.specs.Error.{code_of, offset_of}
use Rattle.cbor_decode_as.specs.Takes.{IsNotRead, context, formats_of, raws}
use Rattle.cbor_decode_as.proofs.facts.Readings.{refuses_map}
use Rattle.cbor_described.proofs.Makings.{not_read_as}
use Rattle.cbor_read.specs.Source.{asks_for}
use Rattle.cbor_described.proofs.Makings.{memory_as}
use Rattle.cbor_de.proofs.facts.Faults.{item_fault}
use Rattle.cbor_described.proofs.field_slot.fill_slot.Goals as goal

pub returns-in-Err-clause-read : goal.returns-in-Err-clause-read
returns-in-Err-clause-read g c =
    let old = c.args.de.now.decoder in
    let k = context old.formats g.R.Source.lends in
    let f = formats_of old.formats in
    let reads = g.A.FieldType.reads k in
    let s = g.R.Source.source old.source in
    let e = c.in-Err.e in
    refuses_map g.R.Source.refusals s (code_of e) (offset_of e) (λ l bs. IsNotRead reads (item_at (raws f l) old.levels bs)) (λ l bs. is_some c.args.slot.now ≡ false → IsNotRead reads (item_at (raws f l) old.levels bs)) (λ l bs unread none. unread)
    (not_read_as (g.A.Of.Readable.reads k) reads g.R.Source.refusals f old.levels s (g.R.Source.source c.deserialize.new.de.decoder.source)
    e (λ r y h. g.met.A.FieldType.back k r y h) c.in-Err.ensures.read)

pub returns-in-Err-clause-memory : goal.returns-in-Err-clause-memory
returns-in-Err-clause-memory g c = λ none.
    let old = c.args.de.now.decoder in
    let k = context old.formats g.R.Source.lends in
    memory_as (formats_of old.formats) old.levels (g.R.Source.source old.source) c.in-Err.e (g.A.Of.Readable.asks_memory (asks_for g.R.Source.refusals g.R.Source.lends)) (g.A.Of.Readable.reads k) (g.A.FieldType.reads k) (λ r y h. g.met.A.FieldType.back k r y h) c.in-Err.ensures.memory

-- ---- the fault

pub returns-in-Err-clause-fault : goal.returns-in-Err-clause-fault
returns-in-Err-clause-fault g c =
    let old = c.args.de.now.decoder in
    let of = g.A.Of.Readable in
    item_fault g.R.Source.refusals (g.R.Source.source old.source) c.in-Err.e old.levels (formats_of old.formats) of.passes_over of.total of.reports_faults c.in-Err.ensures.fault c.in-Err.ensures.own_fault
