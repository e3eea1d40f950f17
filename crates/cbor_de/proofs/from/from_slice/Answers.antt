use Rattle.std.proofs.Common.{IfErr, None, subst, arith}
use Rattle.cbor_model.specs.Formats.{all_formats}
use Rattle.cbor_read.specs.Source.{Input, slice_refusals}
use Rattle.cbor_de.specs.Forms.{MayReport}
use Rattle.cbor_de.specs.Whole.{from_slice_context, from_slice_asks}
use Rattle.cbor_de.proofs.inputs.WholeAnswers.{by_bytes}
use Rattle.cbor_de.proofs.from.from_slice.Goals as goal

pub returns-clause-answers : goal.returns-clause-answers
returns-clause-answers g c =
    let t = g.T.Readable in
    let all = c.read_all.ensures in
    by_bytes t.passes_over t.total t.reports_faults (t.reads from_slice_context) (t.asks_memory from_slice_asks) slice_refusals c.read_all.result _ None c.args.slice.now c.new.ensures (λ i. omega (arith, c.type_inv.slice i)) (omega arith) (λ device. absurd cc)
    (record { read = all.read; fault = all.fault; own_fault = all.own_fault; memory = all.memory })

pub returns-clause-form : goal.returns-clause-form
returns-clause-form g c =
    subst (λ (s : Input). IfErr c.read_all.result (MayReport g.T.Readable.wrong_forms all_formats s)) c.new.ensures c.read_all.ensures.form
