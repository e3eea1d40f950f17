use Rattle.std.proofs.Common.{IfErr, Some, length, refl, subst, arith}
use Rattle.cbor_model.specs.Acceptable.{max_depth}
use Rattle.cbor_model.specs.Formats.{all_formats}
use Rattle.cbor_model.proofs.facts.Laws.{scratch_need}
use Rattle.cbor_read.specs.Source.{Input, start_of_slice, fixed_refusals}
use Rattle.cbor_de.specs.Forms.{MayReport}
use Rattle.cbor_decode.specs.Gives.{Reports}
use Rattle.cbor_de.specs.Whole.{ReadsAll, ReportsWhole, from_slice_context, asks_none}
use Rattle.cbor_de.proofs.refusals.Every.{small}
use Rattle.cbor_de.proofs.refusals.Faults.{fails}
use Rattle.cbor_de.proofs.inputs.WholeAnswers.{by_bytes}
use Rattle.cbor_de.proofs.from.from_slice_with_scratch.Goals as goal

pub returns-clause-answers : goal.returns-clause-answers
returns-clause-answers g c =
    let t = g.T.Readable in
    let all = c.read_all.ensures in
    by_bytes t.passes_over t.total t.reports_faults (t.reads from_slice_context) (t.asks_memory asks_none) fixed_refusals c.read_all.result _ (Some (length c.args.scratch.now)) c.args.slice.now c.new.ensures (λ i. omega (arith, c.type_inv.slice i)) (omega arith) (λ device. absurd cc)
    (record { read = all.read; fault = all.fault; own_fault = all.own_fault; memory = all.memory })

pub returns-clause-form : goal.returns-clause-form
returns-clause-form g c =
    subst (λ (s : Input). IfErr c.read_all.result (MayReport g.T.Readable.wrong_forms all_formats s)) c.new.ensures c.read_all.ensures.form

pub returns-clause-small : goal.returns-clause-small
returns-clause-small g c = λ v spelt longer.
    let bs = c.args.slice.now in
    let room = length c.args.scratch.now in
    let s = start_of_slice bs (Some room) in
    let reports : Reports s bs = record { is = refl; short = omega arith } in
    let reads = g.T.Readable.reads from_slice_context in
    let read = subst (λ (s : Input). ReadsAll fixed_refusals all_formats reads max_depth s c.read_all.result) c.new.ensures c.read_all.ensures.read in
    let given = subst (λ (s : Input). IfErr c.read_all.result (ReportsWhole g.T.Readable.passes_over g.T.Readable.total fixed_refusals all_formats (g.T.Readable.reads from_slice_context) max_depth s)) c.new.ensures c.read_all.ensures.fault in
    let need = scratch_need room bs v (omega arith) spelt in
    small g.T.Readable.total fixed_refusals reads s bs reports refl (need.1 longer) c.read_all.result read (fails g.T.Readable.passes_over g.T.Readable.total fixed_refusals (g.T.Readable.reads from_slice_context) s bs reports refl (λ device. absurd cc) c.read_all.result given)
