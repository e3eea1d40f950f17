use Rattle.cbor_model.specs.Document.{document_of, IsStorableDocument}
use Rattle.cbor_model.proofs.facts.Documents.{storable_document}
use Rattle.cbor_value.specs.View.{view}
use Rattle.cbor_convert.proofs.MemoryAnswers.{refused_as}
use Rattle.cbor_convert.proofs.canonical.to_vec_canonical.Goals as goal

pub returns-clause-refused : goal.returns-clause-refused
returns-clause-refused g c =
    let v = view c.in_ok-value.value in
    refused_as c.to_vec.result (IsStorableDocument (document_of v)) _ (storable_document v c.in_ok-value.ensures.stored) c.to_vec.ensures.refused
