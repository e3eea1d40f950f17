use Rattle.std.proofs.Common.{◌<◌, List, [], ◌∷◌, length, map, drop, arith, ℕ, Bor}
use Rattle.std.proofs.lemmas.Result.{err_from_is_err_and}
use Rattle.cbor_io.specs.Error.{code_of}
use Rattle.cbor_de.specs.Structs.{field_or}
use Rattle.cbor_described.specs.FieldLists.{over, slots_over}
use Rattle.cbor_described.proofs.FieldLists.{held_over, lacking_over}
use Rattle.cbor_described.proofs.Lacking.{names_first, names_later, names_behind, no_name}
use Rattle.cbor_described.proofs.field_list.Tuple5FieldList.required.Goals as goal

pub returns-in_err-a-clause-lacking : goal.returns-in_err-a-clause-lacking
returns-in_err-a-clause-lacking g c =
    let passed = err_from_is_err_and c.from_residual.result c.from_residual.ensures.1 in
    let code = code_of c.in_err-a.field-0.0 in
    let names = c.args.names.now in
    let some0 : 0 < length names = omega (arith, c.requires) in
    rw (passed.1, passed.2) (λ k. names_first names no_name (field_or (g.A.FieldType.reads k) g.A.FieldType.missing (λ p. p.0)) (field_or (g.B.FieldType.reads k) g.B.FieldType.missing (λ p. p.1) ∷ field_or (g.C.FieldType.reads k) g.C.FieldType.missing (λ p. p.2) ∷ field_or (g.D.FieldType.reads k) g.D.FieldType.missing (λ p. p.3) ∷ over (λ p. p.4) (g.F.FieldList.fields k)) (c.args.held.0, (c.args.held.1, (c.args.held.2, (c.args.held.3, slots_over (λ p. p.4) (g.F.FieldList.fields k) (g.F.FieldList.slots k c.args.held.4))))) code 0 some0 c.in_err-a.ensures.lacks c.in_err-a.ensures.text)

pub returns-in_err-b-clause-lacking : goal.returns-in_err-b-clause-lacking
returns-in_err-b-clause-lacking g c =
    let passed = err_from_is_err_and c.from_residual-in_err-b.result c.from_residual-in_err-b.ensures.1 in
    let code = code_of c.in_err-b.field-0.0 in
    let names = c.args.names.now in
    let some0 : 0 < length names = omega (arith, c.requires) in
    let some1 : 1 < length names = omega (arith, c.requires) in
    rw (passed.1, passed.2) (λ k. names_later names no_name (field_or (g.A.FieldType.reads k) g.A.FieldType.missing (λ p. p.0)) (field_or (g.B.FieldType.reads k) g.B.FieldType.missing (λ p. p.1) ∷ field_or (g.C.FieldType.reads k) g.C.FieldType.missing (λ p. p.2) ∷ field_or (g.D.FieldType.reads k) g.D.FieldType.missing (λ p. p.3) ∷ over (λ p. p.4) (g.F.FieldList.fields k)) (c.args.held.0, (c.args.held.1, (c.args.held.2, (c.args.held.3, slots_over (λ p. p.4) (g.F.FieldList.fields k) (g.F.FieldList.slots k c.args.held.4))))) code 0 some0 c.in_ok-a.a c.in_ok-a.ensures.held
    (names_first names no_name (field_or (g.B.FieldType.reads k) g.B.FieldType.missing (λ p. p.1)) (field_or (g.C.FieldType.reads k) g.C.FieldType.missing (λ p. p.2) ∷ field_or (g.D.FieldType.reads k) g.D.FieldType.missing (λ p. p.3) ∷ over (λ p. p.4) (g.F.FieldList.fields k)) (c.args.held.1, (c.args.held.2, (c.args.held.3, slots_over (λ p. p.4) (g.F.FieldList.fields k) (g.F.FieldList.slots k c.args.held.4)))) code 1 some1 c.in_err-b.ensures.lacks c.in_err-b.ensures.text))

pub returns-in_err-c-clause-lacking : goal.returns-in_err-c-clause-lacking
returns-in_err-c-clause-lacking g c =
    let passed = err_from_is_err_and c.from_residual-in_err-c.result c.from_residual-in_err-c.ensures.1 in
    let code = code_of c.in_err-c.field-0.0 in
    let names = c.args.names.now in
    let some0 : 0 < length names = omega (arith, c.requires) in
    let some1 : 1 < length names = omega (arith, c.requires) in
    let some2 : 2 < length names = omega (arith, c.requires) in
    rw (passed.1, passed.2) (λ k. names_later names no_name (field_or (g.A.FieldType.reads k) g.A.FieldType.missing (λ p. p.0)) (field_or (g.B.FieldType.reads k) g.B.FieldType.missing (λ p. p.1) ∷ field_or (g.C.FieldType.reads k) g.C.FieldType.missing (λ p. p.2) ∷ field_or (g.D.FieldType.reads k) g.D.FieldType.missing (λ p. p.3) ∷ over (λ p. p.4) (g.F.FieldList.fields k)) (c.args.held.0, (c.args.held.1, (c.args.held.2, (c.args.held.3, slots_over (λ p. p.4) (g.F.FieldList.fields k) (g.F.FieldList.slots k c.args.held.4))))) code 0 some0 c.in_ok-a.a c.in_ok-a.ensures.held
    (names_later names no_name (field_or (g.B.FieldType.reads k) g.B.FieldType.missing (λ p. p.1)) (field_or (g.C.FieldType.reads k) g.C.FieldType.missing (λ p. p.2) ∷ field_or (g.D.FieldType.reads k) g.D.FieldType.missing (λ p. p.3) ∷ over (λ p. p.4) (g.F.FieldList.fields k)) (c.args.held.1, (c.args.held.2, (c.args.held.3, slots_over (λ p. p.4) (g.F.FieldList.fields k) (g.F.FieldList.slots k c.args.held.4)))) code 1 some1 c.in_ok-b.b c.in_ok-b.ensures.held
    (names_first names no_name (field_or (g.C.FieldType.reads k) g.C.FieldType.missing (λ p. p.2)) (field_or (g.D.FieldType.reads k) g.D.FieldType.missing (λ p. p.3) ∷ over (λ p. p.4) (g.F.FieldList.fields k)) (c.args.held.2, (c.args.held.3, slots_over (λ p. p.4) (g.F.FieldList.fields k) (g.F.FieldList.slots k c.args.held.4))) code 2 some2 c.in_err-c.ensures.lacks c.in_err-c.ensures.text)))

pub returns-in_err-d-clause-lacking : goal.returns-in_err-d-clause-lacking
returns-in_err-d-clause-lacking g c =
    let passed = err_from_is_err_and c.from_residual-in_err-d.result c.from_residual-in_err-d.ensures.1 in
    let code = code_of c.in_err-d.field-0.0 in
    let names = c.args.names.now in
    let some0 : 0 < length names = omega (arith, c.requires) in
    let some1 : 1 < length names = omega (arith, c.requires) in
    let some2 : 2 < length names = omega (arith, c.requires) in
    let some3 : 3 < length names = omega (arith, c.requires) in
    rw (passed.1, passed.2) (λ k. names_later names no_name (field_or (g.A.FieldType.reads k) g.A.FieldType.missing (λ p. p.0)) (field_or (g.B.FieldType.reads k) g.B.FieldType.missing (λ p. p.1) ∷ field_or (g.C.FieldType.reads k) g.C.FieldType.missing (λ p. p.2) ∷ field_or (g.D.FieldType.reads k) g.D.FieldType.missing (λ p. p.3) ∷ over (λ p. p.4) (g.F.FieldList.fields k)) (c.args.held.0, (c.args.held.1, (c.args.held.2, (c.args.held.3, slots_over (λ p. p.4) (g.F.FieldList.fields k) (g.F.FieldList.slots k c.args.held.4))))) code 0 some0 c.in_ok-a.a c.in_ok-a.ensures.held
    (names_later names no_name (field_or (g.B.FieldType.reads k) g.B.FieldType.missing (λ p. p.1)) (field_or (g.C.FieldType.reads k) g.C.FieldType.missing (λ p. p.2) ∷ field_or (g.D.FieldType.reads k) g.D.FieldType.missing (λ p. p.3) ∷ over (λ p. p.4) (g.F.FieldList.fields k)) (c.args.held.1, (c.args.held.2, (c.args.held.3, slots_over (λ p. p.4) (g.F.FieldList.fields k) (g.F.FieldList.slots k c.args.held.4)))) code 1 some1 c.in_ok-b.b c.in_ok-b.ensures.held
    (names_later names no_name (field_or (g.C.FieldType.reads k) g.C.FieldType.missing (λ p. p.2)) (field_or (g.D.FieldType.reads k) g.D.FieldType.missing (λ p. p.3) ∷ over (λ p. p.4) (g.F.FieldList.fields k)) (c.args.held.2, (c.args.held.3, slots_over (λ p. p.4) (g.F.FieldList.fields k) (g.F.FieldList.slots k c.args.held.4))) code 2 some2 c.in_ok-c.c c.in_ok-c.ensures.held
    (names_first names no_name (field_or (g.D.FieldType.reads k) g.D.FieldType.missing (λ p. p.3)) (over (λ p. p.4) (g.F.FieldList.fields k)) (c.args.held.3, slots_over (λ p. p.4) (g.F.FieldList.fields k) (g.F.FieldList.slots k c.args.held.4)) code 3 some3 c.in_err-d.ensures.lacks c.in_err-d.ensures.text))))

pub returns-in_err-others-clause-lacking : goal.returns-in_err-others-clause-lacking
returns-in_err-others-clause-lacking g c =
    let passed = err_from_is_err_and c.from_residual-in_err-others.result c.from_residual-in_err-others.ensures.1 in
    let code = code_of c.in_err-others.field-0.0 in
    let names = c.args.names.now in
    let some0 : 0 < length names = omega (arith, c.requires) in
    let some1 : 1 < length names = omega (arith, c.requires) in
    let some2 : 2 < length names = omega (arith, c.requires) in
    let some3 : 3 < length names = omega (arith, c.requires) in
    rw (passed.1, passed.2) (λ k. names_later names no_name (field_or (g.A.FieldType.reads k) g.A.FieldType.missing (λ p. p.0)) (field_or (g.B.FieldType.reads k) g.B.FieldType.missing (λ p. p.1) ∷ field_or (g.C.FieldType.reads k) g.C.FieldType.missing (λ p. p.2) ∷ field_or (g.D.FieldType.reads k) g.D.FieldType.missing (λ p. p.3) ∷ over (λ p. p.4) (g.F.FieldList.fields k)) (c.args.held.0, (c.args.held.1, (c.args.held.2, (c.args.held.3, slots_over (λ p. p.4) (g.F.FieldList.fields k) (g.F.FieldList.slots k c.args.held.4))))) code 0 some0 c.in_ok-a.a c.in_ok-a.ensures.held
    (names_later names no_name (field_or (g.B.FieldType.reads k) g.B.FieldType.missing (λ p. p.1)) (field_or (g.C.FieldType.reads k) g.C.FieldType.missing (λ p. p.2) ∷ field_or (g.D.FieldType.reads k) g.D.FieldType.missing (λ p. p.3) ∷ over (λ p. p.4) (g.F.FieldList.fields k)) (c.args.held.1, (c.args.held.2, (c.args.held.3, slots_over (λ p. p.4) (g.F.FieldList.fields k) (g.F.FieldList.slots k c.args.held.4)))) code 1 some1 c.in_ok-b.b c.in_ok-b.ensures.held
    (names_later names no_name (field_or (g.C.FieldType.reads k) g.C.FieldType.missing (λ p. p.2)) (field_or (g.D.FieldType.reads k) g.D.FieldType.missing (λ p. p.3) ∷ over (λ p. p.4) (g.F.FieldList.fields k)) (c.args.held.2, (c.args.held.3, slots_over (λ p. p.4) (g.F.FieldList.fields k) (g.F.FieldList.slots k c.args.held.4))) code 2 some2 c.in_ok-c.c c.in_ok-c.ensures.held
    (names_later names no_name (field_or (g.D.FieldType.reads k) g.D.FieldType.missing (λ p. p.3)) (over (λ p. p.4) (g.F.FieldList.fields k)) (c.args.held.3, slots_over (λ p. p.4) (g.F.FieldList.fields k) (g.F.FieldList.slots k c.args.held.4)) code 3 some3 c.in_ok-d.d c.in_ok-d.ensures.held
    (lacking_over (λ p. p.4) (g.F.FieldList.fields k) (map (λ n. n.now) (drop 4 names)) (g.F.FieldList.slots k c.args.held.4) code (names_behind names (g.F.FieldList.fields k) (g.F.FieldList.slots k c.args.held.4) code 4 (c.in_err-others.ensures.lacking k)))))))

pub returns-clause-all : goal.returns-clause-all
returns-clause-all g c k = (
  c.in_ok-a.ensures.held,
  (
    c.in_ok-b.ensures.held,
    (
      c.in_ok-c.ensures.held,
      (
        c.in_ok-d.ensures.held,
        held_over (λ p. p.4) (g.F.FieldList.fields k) (g.F.FieldList.slots k c.args.held.4) (c.in_ok-a.a, c.in_ok-b.b, c.in_ok-c.c, c.in_ok-d.d, c.in_ok-others.others) (c.in_ok-others.ensures.all k),
      ),
    ),
  ),
)
