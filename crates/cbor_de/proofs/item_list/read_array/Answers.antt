use Rattle.std.proofs.Common.{Ok, Err}
use Rattle.cbor_decode.specs.declared.formats.Formats.{Formats}
use Rattle.cbor_decode_as.specs.Takes.{context, formats_of}
use Rattle.cbor_decode_as.proofs.facts.Arrays.{no_array_read}
use Rattle.cbor_de.proofs.parts.ItemLists.{array_answer}
use Rattle.cbor_de.proofs.refusals.Forms.{later_in}
use Rattle.cbor_decode.specs.declared.head.Head.TheVariants as head
use Rattle.cbor_decode_as.proofs.facts.Refusals.{always}
use Rattle.cbor_de.proofs.parts.ArrayFaults.{array_begins, array_fault}
use Rattle.cbor_de.proofs.refusals.OwnFaults.{beginning_fault}
use Rattle.cbor_de.proofs.refusals.Faults.{where_map}
use Rattle.cbor_de.proofs.item_list.read_array.Goals as goal

pub returns-in-Err-clause-read : goal.returns-in-Err-clause-read
returns-in-Err-clause-read g c =
    let old = c.args.de.now.decoder in
    no_array_read (g.T.ReadableTuple.parts (context old.formats g.R.Source.lends)) g.R.Source.refusals (formats_of old.formats) old.levels (g.R.Source.source old.source) c.in-Err.e c.in-Err.ensures.read

pub returns-in-Ok-read_tuple-clause-read : goal.returns-in-Ok-read_tuple-clause-read
returns-in-Ok-read_tuple-clause-read g c =
    let old = c.args.de.now.decoder in
    let mid = c.head.new.decoder in
    let s = g.R.Source.source old.source in
    let m = g.R.Source.source mid.source in
    let t = g.R.Source.source c.read_tuple.new.de.decoder.source in
    array_answer (λ (f : Formats). g.T.ReadableTuple.parts (context f g.R.Source.lends)) old.formats mid.formats c.head.ensures.formats old.levels mid.levels c.in-Ok.remaining g.R.Source.refusals s m t c.in-Ok.ensures.read (Ok c.in-Ok-read_tuple.tuple) c.in-Ok-read_tuple.ensures.read

pub returns-in-Err-read_tuple-clause-read : goal.returns-in-Err-read_tuple-clause-read
returns-in-Err-read_tuple-clause-read g c =
    let old = c.args.de.now.decoder in
    let mid = c.head.new.decoder in
    let s = g.R.Source.source old.source in
    let m = g.R.Source.source mid.source in
    let t = g.R.Source.source c.read_tuple.new.de.decoder.source in
    array_answer (λ (f : Formats). g.T.ReadableTuple.parts (context f g.R.Source.lends)) old.formats mid.formats c.head.ensures.formats old.levels mid.levels c.in-Ok.remaining g.R.Source.refusals s m t c.in-Ok.ensures.read (Err c.in-Err-read_tuple.e) c.in-Err-read_tuple.ensures.read

pub returns-in-Err-read_tuple-clause-form : goal.returns-in-Err-read_tuple-clause-form
returns-in-Err-read_tuple-clause-form g c =
    later_in g.T.ReadableTuple.wrong_forms c.args.de.now.decoder.formats c.head.new.decoder.formats _ _ c.in-Err-read_tuple.e c.head.ensures.formats c.in-Ok.ensures.read.took c.in-Err-read_tuple.ensures.form

-- ---- the fault

pub returns-in-Err-clause-own_fault : goal.returns-in-Err-clause-own_fault
returns-in-Err-clause-own_fault g c =
    let old = c.args.de.now.decoder in
    always g.T.ReadableTuple.reports_faults (beginning_fault g.R.Source.refusals (g.R.Source.source old.source) c.in-Err.e head.Array old.levels c.in-Err.ensures.fault)

pub returns-in-Err-read_tuple-clause-own_fault : goal.returns-in-Err-read_tuple-clause-own_fault
returns-in-Err-read_tuple-clause-own_fault g c =
    let old = c.args.de.now.decoder in
    let mid = c.head.new.decoder in
    let s = g.R.Source.source old.source in
    let m = g.R.Source.source mid.source in
    let r = c.in-Ok.remaining in
    where_map g.T.ReadableTuple.reports_faults
    (array_fault g.R.Source.refusals c.in-Err-read_tuple.e old.levels mid.levels r s m (array_begins old.levels mid.levels r s m c.in-Ok.ensures.opened)) c.in-Err-read_tuple.ensures.fault
