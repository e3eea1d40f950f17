use Rattle.std.proofs.Common.{IfErr, subst}
use Rattle.cbor_model.specs.Formats.{all_formats}
use Rattle.cbor_read.specs.Source.{Input}
use Rattle.cbor_de.specs.Forms.{MayReport}
use Rattle.cbor_de.specs.Whole.{from_reader_context, from_reader_asks}
use Rattle.cbor_de.proofs.inputs.WholeAnswers.{by_reader}
use Rattle.cbor_de.proofs.from.from_reader.Goals as goal

pub returns-clause-answers : goal.returns-clause-answers
returns-clause-answers g c = λ bs gave.
    let t = g.T.Readable in
    let all = c.read_all.ensures in
    by_reader t.passes_over t.total t.reports_faults (t.reads from_reader_context) (t.asks_memory from_reader_asks) c.read_all.result _ (g.R.Read.remaining c.args.reader) bs c.inline.ensures gave
    (record { read = all.read; fault = all.fault; own_fault = all.own_fault; memory = all.memory })

pub returns-clause-form : goal.returns-clause-form
returns-clause-form g c =
    subst (λ (s : Input). IfErr c.read_all.result (MayReport g.T.Readable.wrong_forms all_formats s)) c.inline.ensures c.read_all.ensures.form
