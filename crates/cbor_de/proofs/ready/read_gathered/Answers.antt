use Rattle.cbor_decode.specs.declared.formats.Formats.{Formats}
use Rattle.cbor_decode.proofs.facts.Steps.{took_stays}
use Rattle.cbor_decode_as.specs.Takes.{context, formats_of}
use Rattle.cbor_decode_as.proofs.facts.Readings.{read_gathered}
use Rattle.cbor_de.proofs.refusals.Forms.{later_err}
use Rattle.cbor_de.proofs.refusals.OwnFaults.{err_gathered}
use Rattle.cbor_de.proofs.ready.read_gathered.Goals as goal

pub returns-in-None-clause-read : goal.returns-in-None-clause-read
returns-in-None-clause-read g c =
    let old = c.args.de.now.decoder in
    let mid = c.gathered.new.de.decoder in
    let same = c.in-None.ensures.settings in
    read_gathered _ _ c.in-None.ensures.read old.formats mid.formats same.formats g.R.Source.refusals (λ (f : Formats). g.T.Readable.reads (context f g.R.Source.lends)) old.levels mid.levels same.levels _ c.deserialize.result c.deserialize.ensures.read

pub returns-in-None-clause-form : goal.returns-in-None-clause-form
returns-in-None-clause-form g c =
    let mid = c.gathered.new.de.decoder in
    later_err g.T.Readable.wrong_forms c.args.de.now.decoder.formats mid.formats _ _ c.deserialize.result c.in-None.ensures.settings.formats (took_stays _ _ c.in-None.ensures.read) c.deserialize.ensures.form

pub returns-in-None-clause-own_fault : goal.returns-in-None-clause-own_fault
returns-in-None-clause-own_fault g c =
    let old = c.args.de.now.decoder in
    let mid = c.gathered.new.de.decoder in
    let t = g.T.Readable in
    err_gathered (g.R.Source.source old.source) (g.R.Source.source mid.source) c.in-None.ensures.read g.R.Source.refusals old.levels mid.levels c.in-None.ensures.settings.levels (formats_of mid.formats) t.passes_over t.total t.reports_faults c.deserialize.result c.deserialize.ensures.fault c.deserialize.ensures.own_fault
