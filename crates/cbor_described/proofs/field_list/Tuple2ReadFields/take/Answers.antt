use Rattle.std.proofs.Common.{[], ◌∷◌, ◌≡◌, ◌+◌, ◌-◌, arith}
use Rattle.cbor_de.specs.Structs.{field_or}
use Rattle.cbor_decode_as.specs.Takes.{context, formats_of}
use Rattle.cbor_described.specs.FieldLists.{over, slots_over}
use Rattle.cbor_described.proofs.FieldLists.{slot_taken, taken_behind, twice_behind}
use Rattle.cbor_de.specs.Forms.{key_form}
use Rattle.cbor_described.proofs.FieldForms.{of_first, of_others}
use Rattle.cbor_read.specs.Source.{asks_for}
use Rattle.cbor_de.specs.StructMemory.{field_then}
use Rattle.cbor_described.proofs.FieldLists.{memory_behind, slot_memory}
use Rattle.cbor_described.proofs.Makings.{err_map}
use Rattle.cbor_io.specs.declared.error.Error.{Error}
use Rattle.cbor_decode_as.specs.Takes.{ItemFault}
use Rattle.cbor_de.specs.Calls.{reports_any}
use Rattle.cbor_described.proofs.FieldFaults as fault
use Rattle.cbor_described.proofs.field_list.Tuple2ReadFields.take.Goals as goal

pub returns-then-i-ne0-clause-read : goal.returns-then-i-ne0-clause-read
returns-then-i-ne0-clause-read g c =
    let old = c.args.de.now.decoder in
    let k = context old.formats g.R.Source.lends in
    let i = c.args.i in
    let place : i ≡ 1 + (i - 1) = omega (arith, c.if-i-ne0.true) in
    taken_behind (formats_of old.formats) old.levels g.R.Source.refusals (λ p. p.1) (g.F.FieldList.fields k) (field_or (g.A.FieldType.reads k) g.A.FieldType.missing (λ p. p.0) ∷ []) i (i - 1) place (c.args.held.now.0, tt)
    (g.F.FieldList.slots k c.args.held.now.1) _ (g.R.Source.source old.source) _ c.take.result c.take.ensures.read

pub returns-clause-read : goal.returns-clause-read
returns-clause-read g c =
    let old = c.args.de.now.decoder in
    let k = context old.formats g.R.Source.lends in
    slot_taken (formats_of old.formats) old.levels g.R.Source.refusals [] (field_or (g.A.FieldType.reads k) g.A.FieldType.missing (λ p. p.0)) (over (λ p. p.1) (g.F.FieldList.fields k)) c.args.i c.if-i-ne0.false tt
    c.args.held.now.0 _ (slots_over (λ p. p.1) (g.F.FieldList.fields k) (g.F.FieldList.slots k c.args.held.now.1)) (g.R.Source.source old.source) _ c.take_slot.result c.take_slot.ensures.read

pub returns-then-i-ne0-clause-form : goal.returns-then-i-ne0-clause-form
returns-then-i-ne0-clause-form g c = of_others key_form g.A.Of.Readable.wrong_forms g.F.FieldList.wrong_forms _ _ c.take.result c.take.ensures.form

pub returns-clause-form : goal.returns-clause-form
returns-clause-form g c = of_first key_form g.A.Of.Readable.wrong_forms g.F.FieldList.wrong_forms _ _ c.take_slot.result c.take_slot.ensures.form

pub returns-then-i-ne0-clause-twice : goal.returns-then-i-ne0-clause-twice
returns-then-i-ne0-clause-twice g c =
    let i = c.args.i in
    let place : i ≡ 1 + (i - 1) = omega (arith, c.if-i-ne0.true) in
    twice_behind (λ p. p.1) g.F.FieldList.fields (λ k. field_or (g.A.FieldType.reads k) g.A.FieldType.missing (λ p. p.0) ∷ []) i (i - 1) (λ k. place) (λ k. (c.args.held.now.0, tt)) (λ k. g.F.FieldList.slots k c.args.held.now.1) _ c.take.result c.take.ensures.twice

-- ---- memory

pub returns-then-i-ne0-clause-memory : goal.returns-then-i-ne0-clause-memory
returns-then-i-ne0-clause-memory g c =
    let old = c.args.de.now.decoder in
    let k = context old.formats g.R.Source.lends in
    let a = asks_for g.R.Source.refusals g.R.Source.lends in
    let s = g.R.Source.source old.source in
    let held = c.args.held.now in
    let i = c.args.i in
    let place : i ≡ 1 + (i - 1) = omega (arith, c.if-i-ne0.true) in
    err_map _ _ c.take.result (λ e. memory_behind (formats_of old.formats) old.levels s e (λ p. p.1) (g.F.FieldList.fields k) (field_or (g.A.FieldType.reads k) g.A.FieldType.missing (λ p. p.0) ∷ []) (field_then (g.A.Of.Readable.asks_memory a) (g.F.FieldList.asks a)) i (i - 1) place (held.0, tt) (g.F.FieldList.slots k held.1)) c.take.ensures.memory

pub returns-clause-memory : goal.returns-clause-memory
returns-clause-memory g c =
    let old = c.args.de.now.decoder in
    let k = context old.formats g.R.Source.lends in
    let a = asks_for g.R.Source.refusals g.R.Source.lends in
    let s = g.R.Source.source old.source in
    let held = c.args.held.now in
    err_map _ _ c.take_slot.result (λ e. slot_memory (formats_of old.formats) old.levels s e [] (field_or (g.A.FieldType.reads k) g.A.FieldType.missing (λ p. p.0)) (over (λ p. p.1) (g.F.FieldList.fields k)) (field_then (g.A.Of.Readable.asks_memory a) (g.F.FieldList.asks a)) c.args.i c.if-i-ne0.false tt held.0 (slots_over (λ p. p.1) (g.F.FieldList.fields k) (g.F.FieldList.slots k held.1))) c.take_slot.ensures.memory

-- ---- the fault

pub returns-then-i-ne0-clause-fault : goal.returns-then-i-ne0-clause-fault
returns-then-i-ne0-clause-fault g c =
    let old = c.args.de.now.decoder in
    let P = λ (e : Error). ItemFault g.R.Source.refusals old.levels (g.R.Source.source old.source) e in
    fault.of_others (reports_any g.A.Of.Readable.passes_over g.A.Of.Readable.total g.A.Of.Readable.reports_faults) g.F.FieldList.reports_faults P c.take.result c.take.ensures.fault

pub returns-clause-fault : goal.returns-clause-fault
returns-clause-fault g c =
    let old = c.args.de.now.decoder in
    let P = λ (e : Error). ItemFault g.R.Source.refusals old.levels (g.R.Source.source old.source) e in
    fault.of_first (reports_any g.A.Of.Readable.passes_over g.A.Of.Readable.total g.A.Of.Readable.reports_faults) g.F.FieldList.reports_faults P c.take_slot.result c.take_slot.ensures.fault
