use Rattle.std.proofs.Common.{◌<◌, length, map, drop, arith}
use Rattle.std.proofs.lemmas.Result.{err_from_is_err_and}
use Rattle.cbor_io.specs.Error.{code_of}
use Rattle.cbor_de.specs.Structs.{field_or}
use Rattle.cbor_described.specs.FieldLists.{over, slots_over}
use Rattle.cbor_described.proofs.FieldLists.{held_over, lacking_over}
use Rattle.cbor_described.proofs.Lacking.{names_first, names_later, names_behind, no_name}
use Rattle.cbor_described.proofs.field_list.Tuple2FieldList.required.Goals as goal

pub returns-in_err-first-clause-lacking : goal.returns-in_err-first-clause-lacking
returns-in_err-first-clause-lacking g c =
    let passed = err_from_is_err_and c.from_residual.result c.from_residual.ensures.1 in
    let e = c.in_err-first.field-0.0 in
    let some : 0 < length c.args.names.now = omega (arith, c.requires) in
    rw (passed.1, passed.2) (λ k. names_first c.args.names.now no_name (field_or (g.A.FieldType.reads k) g.A.FieldType.missing (λ p. p.0)) (over (λ p. p.1) (g.F.FieldList.fields k)) (c.args.held.0, slots_over (λ p. p.1) (g.F.FieldList.fields k) (g.F.FieldList.slots k c.args.held.1)) (code_of e) 0 some
    c.in_err-first.ensures.lacks c.in_err-first.ensures.text)

pub returns-in_err-others-clause-lacking : goal.returns-in_err-others-clause-lacking
returns-in_err-others-clause-lacking g c =
    let passed = err_from_is_err_and c.from_residual-in_err-others.result c.from_residual-in_err-others.ensures.1 in
    let e = c.in_err-others.field-0.0 in
    let some : 0 < length c.args.names.now = omega (arith, c.requires) in
    rw (passed.1, passed.2) (λ k.
    let fields = g.F.FieldList.fields k in
    let slots = g.F.FieldList.slots k c.args.held.1 in
    names_later c.args.names.now no_name (field_or (g.A.FieldType.reads k) g.A.FieldType.missing (λ p. p.0)) (over (λ p. p.1) fields) (c.args.held.0, slots_over (λ p. p.1) fields slots) (code_of e) 0 some c.in_ok-first.first c.in_ok-first.ensures.held
    (lacking_over (λ p. p.1) fields (map (λ n. n.now) (drop 1 c.args.names.now)) slots (code_of e) (names_behind c.args.names.now fields slots (code_of e) 1 (c.in_err-others.ensures.lacking k))))

pub returns-clause-all : goal.returns-clause-all
returns-clause-all g c k =
    (c.in_ok-first.ensures.held, held_over (λ p. p.1) (g.F.FieldList.fields k) (g.F.FieldList.slots k c.args.held.1) (c.in_ok-first.first, c.in_ok-others.others) (c.in_ok-others.ensures.all k))
