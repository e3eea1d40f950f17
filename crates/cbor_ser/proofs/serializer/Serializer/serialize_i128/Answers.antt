use Rattle.std.proofs.Common.{refl}
use Rattle.std.proofs.lemmas.Int.{to_z-of_z}
use Rattle.cbor_ser.proofs.Beginnings.{reported, reported_refused, reported_fits, reported_ok, reported_why}
use Rattle.cbor_ser.proofs.WriteSteps.{serialized_value, always}
use Rattle.cbor_ser.proofs.Unstored.{integer_before}
use Rattle.cbor_model.specs.Plain as plain
use Rattle.cbor_model.specs.Document.{document_of}
use Rattle.cbor_ser.proofs.serializer.Serializer.serialize_i128.Goals as goal

pub returns-clause-written : goal.returns-clause-written
unfolding document_of
returns-clause-written g c =
    let fits = c.ranges.v in
    let done = c.put_integer-done in
    let refused = reported_refused _ done.result _ c.answer.result c.answer.ensures.ok c.answer.ensures.err done.ensures.refused in
    let stored = reported_ok _ _ done.result _ c.answer.result c.answer.ensures.err done.ensures.refused done.ensures.storable in
    let wrote = reported _ done.result _ c.answer.result c.answer.ensures.ok c.answer.ensures.err done.ensures.refused done.ensures.written in
    serialized_value (plain.integer c.args.v) c.answer.result refl refl done.ensures.same_references done.ensures.same_capacity (simp to_z-of_z at stored) (always c.answer.result) (simp to_z-of_z at wrote) (simp to_z-of_z at refused)
    (λ storable. reported_fits done.result c.answer.result c.answer.ensures.ok (simp to_z-of_z at (done.ensures.fits (simp to_z-of_z storable))))
    (integer_before g.W.Write.written c.args.v _ _ (λ not. done.ensures.kept (simp to_z-of_z not)))

pub returns-clause-unstorable : goal.returns-clause-unstorable
returns-clause-unstorable g c =
    let fits = c.ranges.v in
    let done = c.put_integer-done in
    λ not. reported_why _ _ done.result _ c.answer.result c.answer.ensures.err (simp to_z-of_z at done.ensures.storable) not (done.ensures.unstorable (simp to_z-of_z not))
