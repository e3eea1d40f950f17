use Rattle.std.proofs.Common.{rules, Box}
use Rattle.std.specs.Global.{Global}
use Rattle.cbor_model.specs.Raw.{Raw}
use Rattle.cbor_model.specs.Reader.{item_at}
use Rattle.cbor_io.specs.Error.{IsOutOfMemory, code_of, offset_of}
use Rattle.cbor_decode_as.specs.Takes.{any_item, context, formats_of, raws, IsNotRead}
use Rattle.cbor_decode_as.proofs.facts.Readings.{refuses_map}
use Rattle.cbor_decode_as.proofs.facts.Refusals.{always}
use Rattle.cbor_de.specs.Calls.{reports_any}
use Rattle.cbor_de.proofs.refusals.OwnFaults.{item_fault, memory_if_any}
use Rattle.cbor_de.proofs.types.boxed.BoxDeserialize.deserialize.Goals as goal

pub returns-in-Err-clause-read : goal.returns-in-Err-clause-read
returns-in-Err-clause-read g c =
    let old = c.args.de.now.decoder in
    let f = formats_of old.formats in
    let reads = g.T.Readable.reads (context old.formats g.R.Source.lends) in
    refuses_map g.R.Source.refusals (g.R.Source.source old.source)
    (code_of c.in-Err.e) (offset_of c.in-Err.e)
    (λ l bs. IsNotRead reads (item_at (raws f l) old.levels bs))
    (λ l bs. IsNotRead (λ (r : Raw) (b : Box g.row.T.Denot Global). reads r b.value)
    (item_at (raws f l) old.levels bs))
    (λ l bs none b rest read. none b.value rest
    (record { item = read.item; is = read.is; means = read.means }))
    c.in-Err.ensures.read

pub returns-in-Err-clause-own_fault : goal.returns-in-Err-clause-own_fault
returns-in-Err-clause-own_fault g c =
    let old = c.args.de.now.decoder in
    let t = g.T.Readable in
    item_fault g.R.Source.refusals (g.R.Source.source old.source) c.in-Err.e old.levels (formats_of old.formats) t.passes_over t.total t.reports_faults c.in-Err.ensures.fault c.in-Err.ensures.own_fault

pub returns-in-Err-new-clause-own_fault : goal.returns-in-Err-new-clause-own_fault
returns-in-Err-new-clause-own_fault g c =
    let old = c.args.de.now.decoder in
    let t = g.T.Readable in
    let memory : IsOutOfMemory c.from.result = search rules in
    always (reports_any t.passes_over t.total t.reports_faults) (memory_if_any g.R.Source.refusals (g.R.Source.source old.source) c.from.result (any_item old.levels) memory.0 memory.1)
