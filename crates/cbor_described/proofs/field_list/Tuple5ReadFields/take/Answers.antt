use Rattle.std.proofs.Common.{[], ◌∷◌, ◌≡◌, ◌+◌, ◌-◌, arith}
use Rattle.cbor_de.specs.Structs.{field_or}
use Rattle.cbor_decode_as.specs.Takes.{context, formats_of}
use Rattle.cbor_described.specs.FieldLists.{over, slots_over}
use Rattle.cbor_described.proofs.FieldLists.{slot_taken, taken_behind, twice_behind}
use Rattle.cbor_de.specs.Forms.{any_of, key_form}
use Rattle.cbor_described.proofs.FieldForms.{of_first, of_others}
use Rattle.cbor_read.specs.Source.{asks_for}
use Rattle.cbor_de.specs.StructMemory.{field_then}
use Rattle.cbor_described.proofs.FieldLists.{memory_behind, slot_memory}
use Rattle.cbor_described.proofs.Makings.{err_map}
use Rattle.cbor_io.specs.declared.error.Error.{Error}
use Rattle.cbor_decode_as.specs.Takes.{ItemFault}
use Rattle.cbor_de.specs.Calls.{and_reports, reports_any}
use Rattle.cbor_described.proofs.FieldFaults as fault
use Rattle.cbor_described.proofs.field_list.Tuple5ReadFields.take.Goals as goal

pub returns-in-0-clause-read : goal.returns-in-0-clause-read
returns-in-0-clause-read g c =
    let old = c.args.de.now.decoder in
    let k = context old.formats g.R.Source.lends in
    let held = c.args.held.now in
    slot_taken (formats_of old.formats) old.levels g.R.Source.refusals [] (field_or (g.A.FieldType.reads k) g.A.FieldType.missing (λ p. p.0)) (field_or (g.B.FieldType.reads k) g.B.FieldType.missing (λ p. p.1) ∷ field_or (g.C.FieldType.reads k) g.C.FieldType.missing (λ p. p.2) ∷ field_or (g.D.FieldType.reads k) g.D.FieldType.missing (λ p. p.3) ∷ over (λ p. p.4) (g.F.FieldList.fields k)) c.args.i (c.in-0.is) tt
    held.0 _ (held.1, (held.2, (held.3, slots_over (λ p. p.4) (g.F.FieldList.fields k) (g.F.FieldList.slots k held.4)))) (g.R.Source.source old.source) _ c.take_slot.result c.take_slot.ensures.read

pub returns-in-1-clause-read : goal.returns-in-1-clause-read
returns-in-1-clause-read g c =
    let old = c.args.de.now.decoder in
    let k = context old.formats g.R.Source.lends in
    let held = c.args.held.now in
    slot_taken (formats_of old.formats) old.levels g.R.Source.refusals (field_or (g.A.FieldType.reads k) g.A.FieldType.missing (λ p. p.0) ∷ []) (field_or (g.B.FieldType.reads k) g.B.FieldType.missing (λ p. p.1)) (field_or (g.C.FieldType.reads k) g.C.FieldType.missing (λ p. p.2) ∷ field_or (g.D.FieldType.reads k) g.D.FieldType.missing (λ p. p.3) ∷ over (λ p. p.4) (g.F.FieldList.fields k)) c.args.i (c.in-1.is) (held.0, tt)
    held.1 _ (held.2, (held.3, slots_over (λ p. p.4) (g.F.FieldList.fields k) (g.F.FieldList.slots k held.4))) (g.R.Source.source old.source) _ c.take_slot-in-1.result c.take_slot-in-1.ensures.read

pub returns-in-2-clause-read : goal.returns-in-2-clause-read
returns-in-2-clause-read g c =
    let old = c.args.de.now.decoder in
    let k = context old.formats g.R.Source.lends in
    let held = c.args.held.now in
    slot_taken (formats_of old.formats) old.levels g.R.Source.refusals (field_or (g.A.FieldType.reads k) g.A.FieldType.missing (λ p. p.0) ∷ field_or (g.B.FieldType.reads k) g.B.FieldType.missing (λ p. p.1) ∷ []) (field_or (g.C.FieldType.reads k) g.C.FieldType.missing (λ p. p.2)) (field_or (g.D.FieldType.reads k) g.D.FieldType.missing (λ p. p.3) ∷ over (λ p. p.4) (g.F.FieldList.fields k)) c.args.i (c.in-2.is) (held.0, (held.1, tt))
    held.2 _ (held.3, slots_over (λ p. p.4) (g.F.FieldList.fields k) (g.F.FieldList.slots k held.4)) (g.R.Source.source old.source) _ c.take_slot-in-2.result c.take_slot-in-2.ensures.read

pub returns-in-3-clause-read : goal.returns-in-3-clause-read
returns-in-3-clause-read g c =
    let old = c.args.de.now.decoder in
    let k = context old.formats g.R.Source.lends in
    let held = c.args.held.now in
    slot_taken (formats_of old.formats) old.levels g.R.Source.refusals (field_or (g.A.FieldType.reads k) g.A.FieldType.missing (λ p. p.0) ∷ field_or (g.B.FieldType.reads k) g.B.FieldType.missing (λ p. p.1) ∷ field_or (g.C.FieldType.reads k) g.C.FieldType.missing (λ p. p.2) ∷ []) (field_or (g.D.FieldType.reads k) g.D.FieldType.missing (λ p. p.3)) (over (λ p. p.4) (g.F.FieldList.fields k)) c.args.i (c.in-3.is) (held.0, (held.1, (held.2, tt)))
    held.3 _ (slots_over (λ p. p.4) (g.F.FieldList.fields k) (g.F.FieldList.slots k held.4)) (g.R.Source.source old.source) _ c.take_slot-in-3.result c.take_slot-in-3.ensures.read

pub returns-in_default-clause-read : goal.returns-in_default-clause-read
returns-in_default-clause-read g c =
    let old = c.args.de.now.decoder in
    let k = context old.formats g.R.Source.lends in
    let held = c.args.held.now in
    let i = c.args.i in
    let place : i ≡ 4 + (i - 4) = omega (arith, c.in_default) in
    taken_behind (formats_of old.formats) old.levels g.R.Source.refusals (λ p. p.4) (g.F.FieldList.fields k) (field_or (g.A.FieldType.reads k) g.A.FieldType.missing (λ p. p.0) ∷ field_or (g.B.FieldType.reads k) g.B.FieldType.missing (λ p. p.1) ∷ field_or (g.C.FieldType.reads k) g.C.FieldType.missing (λ p. p.2) ∷ field_or (g.D.FieldType.reads k) g.D.FieldType.missing (λ p. p.3) ∷ []) i (i - 4) place (held.0, (held.1, (held.2, (held.3, tt))))
    (g.F.FieldList.slots k held.4) _ (g.R.Source.source old.source) _ c.take.result c.take.ensures.read

-- ---- a wrong form

pub returns-in-0-clause-form : goal.returns-in-0-clause-form
returns-in-0-clause-form g c = of_first key_form g.A.Of.Readable.wrong_forms (any_of g.B.Of.Readable.wrong_forms (any_of g.C.Of.Readable.wrong_forms (any_of g.D.Of.Readable.wrong_forms g.F.FieldList.wrong_forms))) _ _ c.take_slot.result c.take_slot.ensures.form

pub returns-in-1-clause-form : goal.returns-in-1-clause-form
returns-in-1-clause-form g c =
    let r = c.take_slot-in-1.result in
    of_others key_form g.A.Of.Readable.wrong_forms (any_of g.B.Of.Readable.wrong_forms (any_of g.C.Of.Readable.wrong_forms (any_of g.D.Of.Readable.wrong_forms g.F.FieldList.wrong_forms))) _ _ r (of_first key_form g.B.Of.Readable.wrong_forms (any_of g.C.Of.Readable.wrong_forms (any_of g.D.Of.Readable.wrong_forms g.F.FieldList.wrong_forms)) _ _ r c.take_slot-in-1.ensures.form)

pub returns-in-2-clause-form : goal.returns-in-2-clause-form
returns-in-2-clause-form g c =
    let r = c.take_slot-in-2.result in
    of_others key_form g.A.Of.Readable.wrong_forms (any_of g.B.Of.Readable.wrong_forms (any_of g.C.Of.Readable.wrong_forms (any_of g.D.Of.Readable.wrong_forms g.F.FieldList.wrong_forms))) _ _ r (of_others key_form g.B.Of.Readable.wrong_forms (any_of g.C.Of.Readable.wrong_forms (any_of g.D.Of.Readable.wrong_forms g.F.FieldList.wrong_forms)) _ _ r
    (of_first key_form g.C.Of.Readable.wrong_forms (any_of g.D.Of.Readable.wrong_forms g.F.FieldList.wrong_forms) _ _ r c.take_slot-in-2.ensures.form))

pub returns-in-3-clause-form : goal.returns-in-3-clause-form
returns-in-3-clause-form g c =
    let r = c.take_slot-in-3.result in
    of_others key_form g.A.Of.Readable.wrong_forms (any_of g.B.Of.Readable.wrong_forms (any_of g.C.Of.Readable.wrong_forms (any_of g.D.Of.Readable.wrong_forms g.F.FieldList.wrong_forms))) _ _ r (of_others key_form g.B.Of.Readable.wrong_forms (any_of g.C.Of.Readable.wrong_forms (any_of g.D.Of.Readable.wrong_forms g.F.FieldList.wrong_forms)) _ _ r
    (of_others key_form g.C.Of.Readable.wrong_forms (any_of g.D.Of.Readable.wrong_forms g.F.FieldList.wrong_forms) _ _ r (of_first key_form g.D.Of.Readable.wrong_forms g.F.FieldList.wrong_forms _ _ r c.take_slot-in-3.ensures.form)))

pub returns-in_default-clause-form : goal.returns-in_default-clause-form
returns-in_default-clause-form g c =
    let r = c.take.result in
    of_others key_form g.A.Of.Readable.wrong_forms (any_of g.B.Of.Readable.wrong_forms (any_of g.C.Of.Readable.wrong_forms (any_of g.D.Of.Readable.wrong_forms g.F.FieldList.wrong_forms))) _ _ r (of_others key_form g.B.Of.Readable.wrong_forms (any_of g.C.Of.Readable.wrong_forms (any_of g.D.Of.Readable.wrong_forms g.F.FieldList.wrong_forms)) _ _ r
    (of_others key_form g.C.Of.Readable.wrong_forms (any_of g.D.Of.Readable.wrong_forms g.F.FieldList.wrong_forms) _ _ r (of_others key_form g.D.Of.Readable.wrong_forms g.F.FieldList.wrong_forms _ _ r c.take.ensures.form)))

-- ---- a field that was read before

pub returns-in_default-clause-twice : goal.returns-in_default-clause-twice
returns-in_default-clause-twice g c =
    let held = c.args.held.now in
    let i = c.args.i in
    let place : i ≡ 4 + (i - 4) = omega (arith, c.in_default) in
    twice_behind (λ p. p.4) g.F.FieldList.fields (λ k. field_or (g.A.FieldType.reads k) g.A.FieldType.missing (λ p. p.0) ∷ field_or (g.B.FieldType.reads k) g.B.FieldType.missing (λ p. p.1) ∷ field_or (g.C.FieldType.reads k) g.C.FieldType.missing (λ p. p.2) ∷ field_or (g.D.FieldType.reads k) g.D.FieldType.missing (λ p. p.3) ∷ [])
    i (i - 4) (λ k. place) (λ k. (held.0, (held.1, (held.2, (held.3, tt))))) (λ k. g.F.FieldList.slots k held.4) _ c.take.result c.take.ensures.twice

-- ---- memory

pub returns-in-0-clause-memory : goal.returns-in-0-clause-memory
returns-in-0-clause-memory g c =
    let old = c.args.de.now.decoder in
    let k = context old.formats g.R.Source.lends in
    let a = asks_for g.R.Source.refusals g.R.Source.lends in
    let s = g.R.Source.source old.source in
    let held = c.args.held.now in
    err_map _ _ c.take_slot.result (λ e. slot_memory (formats_of old.formats) old.levels s e ([]) (field_or (g.A.FieldType.reads k) g.A.FieldType.missing (λ p. p.0)) (field_or (g.B.FieldType.reads k) g.B.FieldType.missing (λ p. p.1) ∷ field_or (g.C.FieldType.reads k) g.C.FieldType.missing (λ p. p.2) ∷ field_or (g.D.FieldType.reads k) g.D.FieldType.missing (λ p. p.3) ∷ over (λ p. p.4) (g.F.FieldList.fields k)) (field_then (g.A.Of.Readable.asks_memory a) (field_then (g.B.Of.Readable.asks_memory a) (field_then (g.C.Of.Readable.asks_memory a) (field_then (g.D.Of.Readable.asks_memory a) (g.F.FieldList.asks a))))) c.args.i c.in-0.is tt held.0 (held.1, (held.2, (held.3, slots_over (λ p. p.4) (g.F.FieldList.fields k) (g.F.FieldList.slots k held.4))))) c.take_slot.ensures.memory

pub returns-in-1-clause-memory : goal.returns-in-1-clause-memory
returns-in-1-clause-memory g c =
    let old = c.args.de.now.decoder in
    let k = context old.formats g.R.Source.lends in
    let a = asks_for g.R.Source.refusals g.R.Source.lends in
    let s = g.R.Source.source old.source in
    let held = c.args.held.now in
    err_map _ _ c.take_slot-in-1.result (λ e. slot_memory (formats_of old.formats) old.levels s e (field_or (g.A.FieldType.reads k) g.A.FieldType.missing (λ p. p.0) ∷ []) (field_or (g.B.FieldType.reads k) g.B.FieldType.missing (λ p. p.1)) (field_or (g.C.FieldType.reads k) g.C.FieldType.missing (λ p. p.2) ∷ field_or (g.D.FieldType.reads k) g.D.FieldType.missing (λ p. p.3) ∷ over (λ p. p.4) (g.F.FieldList.fields k)) (field_then (g.A.Of.Readable.asks_memory a) (field_then (g.B.Of.Readable.asks_memory a) (field_then (g.C.Of.Readable.asks_memory a) (field_then (g.D.Of.Readable.asks_memory a) (g.F.FieldList.asks a))))) c.args.i c.in-1.is (held.0, tt) held.1 (held.2, (held.3, slots_over (λ p. p.4) (g.F.FieldList.fields k) (g.F.FieldList.slots k held.4)))) c.take_slot-in-1.ensures.memory

pub returns-in-2-clause-memory : goal.returns-in-2-clause-memory
returns-in-2-clause-memory g c =
    let old = c.args.de.now.decoder in
    let k = context old.formats g.R.Source.lends in
    let a = asks_for g.R.Source.refusals g.R.Source.lends in
    let s = g.R.Source.source old.source in
    let held = c.args.held.now in
    err_map _ _ c.take_slot-in-2.result (λ e. slot_memory (formats_of old.formats) old.levels s e (field_or (g.A.FieldType.reads k) g.A.FieldType.missing (λ p. p.0) ∷ field_or (g.B.FieldType.reads k) g.B.FieldType.missing (λ p. p.1) ∷ []) (field_or (g.C.FieldType.reads k) g.C.FieldType.missing (λ p. p.2)) (field_or (g.D.FieldType.reads k) g.D.FieldType.missing (λ p. p.3) ∷ over (λ p. p.4) (g.F.FieldList.fields k)) (field_then (g.A.Of.Readable.asks_memory a) (field_then (g.B.Of.Readable.asks_memory a) (field_then (g.C.Of.Readable.asks_memory a) (field_then (g.D.Of.Readable.asks_memory a) (g.F.FieldList.asks a))))) c.args.i c.in-2.is (held.0, (held.1, tt)) held.2 (held.3, slots_over (λ p. p.4) (g.F.FieldList.fields k) (g.F.FieldList.slots k held.4))) c.take_slot-in-2.ensures.memory

pub returns-in-3-clause-memory : goal.returns-in-3-clause-memory
returns-in-3-clause-memory g c =
    let old = c.args.de.now.decoder in
    let k = context old.formats g.R.Source.lends in
    let a = asks_for g.R.Source.refusals g.R.Source.lends in
    let s = g.R.Source.source old.source in
    let held = c.args.held.now in
    err_map _ _ c.take_slot-in-3.result (λ e. slot_memory (formats_of old.formats) old.levels s e (field_or (g.A.FieldType.reads k) g.A.FieldType.missing (λ p. p.0) ∷ field_or (g.B.FieldType.reads k) g.B.FieldType.missing (λ p. p.1) ∷ field_or (g.C.FieldType.reads k) g.C.FieldType.missing (λ p. p.2) ∷ []) (field_or (g.D.FieldType.reads k) g.D.FieldType.missing (λ p. p.3)) (over (λ p. p.4) (g.F.FieldList.fields k)) (field_then (g.A.Of.Readable.asks_memory a) (field_then (g.B.Of.Readable.asks_memory a) (field_then (g.C.Of.Readable.asks_memory a) (field_then (g.D.Of.Readable.asks_memory a) (g.F.FieldList.asks a))))) c.args.i c.in-3.is (held.0, (held.1, (held.2, tt))) held.3 (slots_over (λ p. p.4) (g.F.FieldList.fields k) (g.F.FieldList.slots k held.4))) c.take_slot-in-3.ensures.memory

pub returns-in_default-clause-memory : goal.returns-in_default-clause-memory
returns-in_default-clause-memory g c =
    let old = c.args.de.now.decoder in
    let k = context old.formats g.R.Source.lends in
    let a = asks_for g.R.Source.refusals g.R.Source.lends in
    let s = g.R.Source.source old.source in
    let held = c.args.held.now in
    let i = c.args.i in
    let place : i ≡ 4 + (i - 4) = omega (arith, c.in_default) in
    err_map _ _ c.take.result (λ e. memory_behind (formats_of old.formats) old.levels s e (λ p. p.4) (g.F.FieldList.fields k) (field_or (g.A.FieldType.reads k) g.A.FieldType.missing (λ p. p.0) ∷ field_or (g.B.FieldType.reads k) g.B.FieldType.missing (λ p. p.1) ∷ field_or (g.C.FieldType.reads k) g.C.FieldType.missing (λ p. p.2) ∷ field_or (g.D.FieldType.reads k) g.D.FieldType.missing (λ p. p.3) ∷ []) (field_then (g.A.Of.Readable.asks_memory a) (field_then (g.B.Of.Readable.asks_memory a) (field_then (g.C.Of.Readable.asks_memory a) (field_then (g.D.Of.Readable.asks_memory a) (g.F.FieldList.asks a))))) i (i - 4) place (held.0, (held.1, (held.2, (held.3, tt)))) (g.F.FieldList.slots k held.4)) c.take.ensures.memory

-- ---- the fault

pub returns-in-0-clause-fault : goal.returns-in-0-clause-fault
returns-in-0-clause-fault g c =
    let old = c.args.de.now.decoder in
    let P = λ (e : Error). ItemFault g.R.Source.refusals old.levels (g.R.Source.source old.source) e in
    let r = c.take_slot.result in
    fault.of_first (reports_any g.A.Of.Readable.passes_over g.A.Of.Readable.total g.A.Of.Readable.reports_faults) (and_reports (reports_any g.B.Of.Readable.passes_over g.B.Of.Readable.total g.B.Of.Readable.reports_faults) (and_reports (reports_any g.C.Of.Readable.passes_over g.C.Of.Readable.total g.C.Of.Readable.reports_faults) (and_reports (reports_any g.D.Of.Readable.passes_over g.D.Of.Readable.total g.D.Of.Readable.reports_faults) g.F.FieldList.reports_faults))) P r c.take_slot.ensures.fault

pub returns-in-1-clause-fault : goal.returns-in-1-clause-fault
returns-in-1-clause-fault g c =
    let old = c.args.de.now.decoder in
    let P = λ (e : Error). ItemFault g.R.Source.refusals old.levels (g.R.Source.source old.source) e in
    let r = c.take_slot-in-1.result in
    fault.of_others (reports_any g.A.Of.Readable.passes_over g.A.Of.Readable.total g.A.Of.Readable.reports_faults) (and_reports (reports_any g.B.Of.Readable.passes_over g.B.Of.Readable.total g.B.Of.Readable.reports_faults) (and_reports (reports_any g.C.Of.Readable.passes_over g.C.Of.Readable.total g.C.Of.Readable.reports_faults) (and_reports (reports_any g.D.Of.Readable.passes_over g.D.Of.Readable.total g.D.Of.Readable.reports_faults) g.F.FieldList.reports_faults))) P r
    (fault.of_first (reports_any g.B.Of.Readable.passes_over g.B.Of.Readable.total g.B.Of.Readable.reports_faults) (and_reports (reports_any g.C.Of.Readable.passes_over g.C.Of.Readable.total g.C.Of.Readable.reports_faults) (and_reports (reports_any g.D.Of.Readable.passes_over g.D.Of.Readable.total g.D.Of.Readable.reports_faults) g.F.FieldList.reports_faults)) P r c.take_slot-in-1.ensures.fault)

pub returns-in-2-clause-fault : goal.returns-in-2-clause-fault
returns-in-2-clause-fault g c =
    let old = c.args.de.now.decoder in
    let P = λ (e : Error). ItemFault g.R.Source.refusals old.levels (g.R.Source.source old.source) e in
    let r = c.take_slot-in-2.result in
    fault.of_others (reports_any g.A.Of.Readable.passes_over g.A.Of.Readable.total g.A.Of.Readable.reports_faults) (and_reports (reports_any g.B.Of.Readable.passes_over g.B.Of.Readable.total g.B.Of.Readable.reports_faults) (and_reports (reports_any g.C.Of.Readable.passes_over g.C.Of.Readable.total g.C.Of.Readable.reports_faults) (and_reports (reports_any g.D.Of.Readable.passes_over g.D.Of.Readable.total g.D.Of.Readable.reports_faults) g.F.FieldList.reports_faults))) P r
    (fault.of_others (reports_any g.B.Of.Readable.passes_over g.B.Of.Readable.total g.B.Of.Readable.reports_faults) (and_reports (reports_any g.C.Of.Readable.passes_over g.C.Of.Readable.total g.C.Of.Readable.reports_faults) (and_reports (reports_any g.D.Of.Readable.passes_over g.D.Of.Readable.total g.D.Of.Readable.reports_faults) g.F.FieldList.reports_faults)) P r
    (fault.of_first (reports_any g.C.Of.Readable.passes_over g.C.Of.Readable.total g.C.Of.Readable.reports_faults) (and_reports (reports_any g.D.Of.Readable.passes_over g.D.Of.Readable.total g.D.Of.Readable.reports_faults) g.F.FieldList.reports_faults) P r c.take_slot-in-2.ensures.fault))

pub returns-in-3-clause-fault : goal.returns-in-3-clause-fault
returns-in-3-clause-fault g c =
    let old = c.args.de.now.decoder in
    let P = λ (e : Error). ItemFault g.R.Source.refusals old.levels (g.R.Source.source old.source) e in
    let r = c.take_slot-in-3.result in
    fault.of_others (reports_any g.A.Of.Readable.passes_over g.A.Of.Readable.total g.A.Of.Readable.reports_faults) (and_reports (reports_any g.B.Of.Readable.passes_over g.B.Of.Readable.total g.B.Of.Readable.reports_faults) (and_reports (reports_any g.C.Of.Readable.passes_over g.C.Of.Readable.total g.C.Of.Readable.reports_faults) (and_reports (reports_any g.D.Of.Readable.passes_over g.D.Of.Readable.total g.D.Of.Readable.reports_faults) g.F.FieldList.reports_faults))) P r
    (fault.of_others (reports_any g.B.Of.Readable.passes_over g.B.Of.Readable.total g.B.Of.Readable.reports_faults) (and_reports (reports_any g.C.Of.Readable.passes_over g.C.Of.Readable.total g.C.Of.Readable.reports_faults) (and_reports (reports_any g.D.Of.Readable.passes_over g.D.Of.Readable.total g.D.Of.Readable.reports_faults) g.F.FieldList.reports_faults)) P r
    (fault.of_others (reports_any g.C.Of.Readable.passes_over g.C.Of.Readable.total g.C.Of.Readable.reports_faults) (and_reports (reports_any g.D.Of.Readable.passes_over g.D.Of.Readable.total g.D.Of.Readable.reports_faults) g.F.FieldList.reports_faults) P r
    (fault.of_first (reports_any g.D.Of.Readable.passes_over g.D.Of.Readable.total g.D.Of.Readable.reports_faults) g.F.FieldList.reports_faults P r c.take_slot-in-3.ensures.fault)))

pub returns-in_default-clause-fault : goal.returns-in_default-clause-fault
returns-in_default-clause-fault g c =
    let old = c.args.de.now.decoder in
    let P = λ (e : Error). ItemFault g.R.Source.refusals old.levels (g.R.Source.source old.source) e in
    let r = c.take.result in
    fault.of_others (reports_any g.A.Of.Readable.passes_over g.A.Of.Readable.total g.A.Of.Readable.reports_faults) (and_reports (reports_any g.B.Of.Readable.passes_over g.B.Of.Readable.total g.B.Of.Readable.reports_faults) (and_reports (reports_any g.C.Of.Readable.passes_over g.C.Of.Readable.total g.C.Of.Readable.reports_faults) (and_reports (reports_any g.D.Of.Readable.passes_over g.D.Of.Readable.total g.D.Of.Readable.reports_faults) g.F.FieldList.reports_faults))) P r
    (fault.of_others (reports_any g.B.Of.Readable.passes_over g.B.Of.Readable.total g.B.Of.Readable.reports_faults) (and_reports (reports_any g.C.Of.Readable.passes_over g.C.Of.Readable.total g.C.Of.Readable.reports_faults) (and_reports (reports_any g.D.Of.Readable.passes_over g.D.Of.Readable.total g.D.Of.Readable.reports_faults) g.F.FieldList.reports_faults)) P r
    (fault.of_others (reports_any g.C.Of.Readable.passes_over g.C.Of.Readable.total g.C.Of.Readable.reports_faults) (and_reports (reports_any g.D.Of.Readable.passes_over g.D.Of.Readable.total g.D.Of.Readable.reports_faults) g.F.FieldList.reports_faults) P r
    (fault.of_others (reports_any g.D.Of.Readable.passes_over g.D.Of.Readable.total g.D.Of.Readable.reports_faults) g.F.FieldList.reports_faults P r
    (c.take.ensures.fault))))
