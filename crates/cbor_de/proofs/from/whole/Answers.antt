use Rattle.cbor_read.specs.Source.{asks_for}
use Rattle.cbor_decode_as.specs.Takes.{IsRead, context, formats_of, raws}
use Rattle.cbor_io.specs.Error.{code_of, offset_of}
use Rattle.cbor_de.proofs.refusals.Forms.{end_form, plain}
use Rattle.cbor_de.proofs.refusals.Faults.{item_whole, end_whole, where_map}
use Rattle.cbor_de.proofs.inputs.Inputs.{all_refused, end_other}
use Rattle.cbor_decode_as.proofs.facts.Refusals.{always, other_code}
use Rattle.std.proofs.Common.{List, ℕ}
use Rattle.cbor_model.specs.Reader.{item_at}
use Rattle.cbor_decode.specs.Gives.{Limits}
use Rattle.cbor_de.specs.Calls.{reports_any}
use Rattle.cbor_de.proofs.refusals.OwnFaults.{item_fault, item_in_whole, rest_of_whole}
use Rattle.cbor_de.proofs.from.whole.Goals as goal

pub returns-in-Err-clause-read : goal.returns-in-Err-clause-read
returns-in-Err-clause-read g c =
    let reads = g.T.Readable.reads (context c.args.de.now.decoder.formats g.R.Source.lends) in
    all_refused g.R.Source.refusals (formats_of c.args.de.now.decoder.formats) reads c.args.de.now.decoder.levels (g.R.Source.source c.args.de.now.decoder.source) c.in-Err.e c.in-Err.ensures.read

pub returns-in-Err-clause-fault : goal.returns-in-Err-clause-fault
returns-in-Err-clause-fault g c =
    item_whole g.R.Source.refusals (formats_of c.args.de.now.decoder.formats) c.args.de.now.decoder.levels (g.R.Source.source c.args.de.now.decoder.source) c.in-Err.e g.T.Readable.passes_over g.T.Readable.total
    (g.T.Readable.reads (context c.args.de.now.decoder.formats g.R.Source.lends)) (g.R.Source.source c.deserialize.new.de.decoder.source) c.in-Err.ensures.read c.in-Err.ensures.fault

pub returns-in-Err-end-clause-fault : goal.returns-in-Err-end-clause-fault
returns-in-Err-end-clause-fault g c =
    let d = c.args.de.now.decoder in
    let reads = g.T.Readable.reads (context d.formats g.R.Source.lends) in
    end_whole g.R.Source.refusals (formats_of d.formats) d.levels (g.R.Source.source d.source) c.in-Err-end.e g.T.Readable.passes_over g.T.Readable.total reads (g.R.Source.source c.deserialize.new.de.decoder.source) c.in-Ok.value c.in-Ok.ensures.read c.in-Err-end.ensures.read

pub returns-in-Err-end-clause-memory : goal.returns-in-Err-end-clause-memory
returns-in-Err-end-clause-memory g c =
    let d = c.args.de.now.decoder in
    let within = context d.formats g.R.Source.lends in
    let m = g.R.Source.source c.deserialize.new.de.decoder.source in
    let t = g.R.Source.source c.end.new.self.decoder.source in
    other_code (g.T.Readable.asks_memory (asks_for g.R.Source.refusals g.R.Source.lends)) (formats_of d.formats) (g.T.Readable.reads within) d.levels (g.R.Source.source d.source) c.in-Err-end.e (end_other g.R.Source.refusals m t c.in-Err-end.e c.in-Err-end.ensures.takes)

pub returns-in-Err-end-clause-form : goal.returns-in-Err-end-clause-form
returns-in-Err-end-clause-form g c =
    let e = c.in-Err-end.e in
    plain g.T.Readable.wrong_forms (formats_of c.args.de.now.decoder.formats) (g.R.Source.source c.args.de.now.decoder.source) e (end_form g.R.Source.refusals (code_of e) (offset_of e) (g.R.Source.source c.deserialize.new.de.decoder.source) (g.R.Source.source c.end.new.self.decoder.source) c.in-Err-end.ensures.takes)

pub returns-in-Err-clause-own_fault : goal.returns-in-Err-clause-own_fault
returns-in-Err-clause-own_fault g c =
    let d = c.args.de.now.decoder in
    let s = g.R.Source.source d.source in
    let t = g.T.Readable in
    let e = c.in-Err.e in
    where_map (reports_any t.passes_over t.total t.reports_faults) (item_in_whole g.R.Source.refusals d.levels s e)
    (item_fault g.R.Source.refusals s e d.levels (formats_of d.formats) t.passes_over t.total t.reports_faults c.in-Err.ensures.fault c.in-Err.ensures.own_fault)

pub returns-in-Err-end-clause-own_fault : goal.returns-in-Err-end-clause-own_fault
returns-in-Err-end-clause-own_fault g c =
    let d = c.args.de.now.decoder in
    let t = g.T.Readable in
    always (reports_any t.passes_over t.total t.reports_faults) (rest_of_whole g.R.Source.refusals d.levels (g.R.Source.source d.source) c.in-Err-end.e (g.R.Source.source c.deserialize.new.de.decoder.source)
    (λ (l : Limits) (bs rest : List ℕ). IsRead (t.reads (context d.formats g.R.Source.lends)) (item_at (raws (formats_of d.formats) l) d.levels bs) c.in-Ok.value rest) c.in-Ok.ensures.read c.in-Err-end.ensures.read)
