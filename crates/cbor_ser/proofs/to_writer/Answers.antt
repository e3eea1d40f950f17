use Rattle.std.proofs.Common.{rules, false}
use Rattle.std.specs.Prelude.{OnOk, IfErr}
use Rattle.cbor_model.specs.Document.{document_bytes, IsStorableDocument, IsDocumentInRange}
use Rattle.cbor_io.specs.Write.{Wrote}
use Rattle.cbor_ser.specs.Written.{DocumentRefused}
use Rattle.cbor_ser.proofs.WriteSteps.{document_wrote, document_before, document_refused, document_fits, references_stay, capacity_stays, wrote_values}
use Rattle.cbor_ser.proofs.to_writer.Goals as goal

pub returns-clause-written : goal.returns-clause-written
returns-clause-written g c =
    let stay = references_stay c.serialize.ensures in
    let wrote = document_wrote false false c.new-ser.ensures.settings c.serialize.ensures in
    search (rules, stay, wrote)

pub returns-clause-same_references : goal.returns-clause-same_references
returns-clause-same_references g c =
    let stay = references_stay c.serialize.ensures in
    search (rules, stay)

pub returns-clause-canonical : goal.returns-clause-canonical
returns-clause-canonical g c v is =
    let stay = references_stay c.serialize.ensures in
    let d = g.T.Serialize.document c.args.value.now in
    let old = c.args.writer.now in
    let new = c.serialize.new.ser.writer.now in
    let storable : OnOk c.serialize.result (IsStorableDocument d) = search rules in
    let in_range : OnOk c.serialize.result (IsDocumentInRange d) = search rules in
    let written = document_wrote false false c.new-ser.ensures.settings c.serialize.ensures in
    let wrote : Wrote (g.W.Write.written old) (document_bytes d false false) (g.W.Write.written new) c.serialize.result = search (rules, written) in
    let refused : IfErr c.serialize.result (DocumentRefused g.W.Write.refuses new d) = document_refused c.serialize.ensures in
    let value = wrote_values {written = g.W.Write.written} {refuses = g.W.Write.refuses} {old = old} {new = new} d c.serialize.result storable in_range wrote refused v is in
    search (rules, stay, value)

pub returns-clause-before : goal.returns-clause-before
returns-clause-before g c front stands =
    let stay = references_stay c.serialize.ensures in
    let before = document_before false false c.new-ser.ensures.settings c.serialize.ensures front stands in
    search (rules, stay, before)

pub returns-clause-fits : goal.returns-clause-fits
returns-clause-fits g c storable =
    let fits = document_fits false false c.new-ser.ensures.settings c.serialize.ensures storable in
    search (rules, fits)

pub returns-clause-same_capacity : goal.returns-clause-same_capacity
returns-clause-same_capacity g c =
    let references = references_stay c.serialize.ensures in
    let stay = capacity_stays c.serialize.ensures in
    search (rules, references, stay)
