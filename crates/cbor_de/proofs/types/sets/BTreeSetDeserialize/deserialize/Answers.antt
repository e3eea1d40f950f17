use Rattle.std.specs.BTreeSet.{BTreeSet}
use Rattle.cbor_model.specs.Raw.{Raws}
use Rattle.cbor_decode_as.specs.Arrays.{AreRead}
use Rattle.cbor_decode_as.specs.Takes.{any_item, context, formats_of}
use Rattle.cbor_de.specs.Sets.{AreKeys}
use Rattle.cbor_de.proofs.values.Made.{none_made}
use Rattle.cbor_decode_as.proofs.facts.Refusals.{always}
use Rattle.cbor_de.specs.Calls.{reports_any}
use Rattle.cbor_de.proofs.refusals.OwnFaults.{memory_if_any}
use Rattle.cbor_de.proofs.types.sets.BTreeSetDeserialize.deserialize.Goals as goal

pub returns-in-Err-clause-read : goal.returns-in-Err-clause-read
returns-in-Err-clause-read g c =
    let old = c.args.de.now.decoder in
    let reads = g.T.Readable.reads (context old.formats g.R.Source.lends) in
    none_made g.R.Source.refusals (formats_of old.formats) old.levels (g.R.Source.source old.source) (g.R.Source.source c.array_items.new.de.decoder.source)
    (AreRead reads) (λ (rs : Raws) (s : BTreeSet g.row.T.Denot). AreKeys g.T.Ord.cmp reads rs s.keys) c.in-Err.e (λ rs s h. (h.items, h.read)) c.in-Err.ensures.read

pub returns-in-Err-set_of-clause-own_fault : goal.returns-in-Err-set_of-clause-own_fault
returns-in-Err-set_of-clause-own_fault g c =
    let old = c.args.de.now.decoder in
    let t = g.T.Readable in
    let memory = c.in-Err-set_of.ensures.memory in
    always (reports_any t.passes_over t.total t.reports_faults) (memory_if_any g.R.Source.refusals (g.R.Source.source old.source) c.in-Err-set_of.full (any_item old.levels) memory.0 memory.1)
