-- Published: documents.

-- a value's document is the value's canonical item, and is storable and in range where the value is
pub use Rattle.cbor_model.proofs.documents.Documents.{document_item, document_is_canonical, storable_document, storable_value, document_in_range, value_in_range, value_in_memory}
-- it has as many documents and pairs as the value has items and pairs
pub use Rattle.cbor_model.proofs.documents.Documents.{documents_counted, pairs_counted}
-- a document's bytes are those of its parts, and it is storable and in range where they are
pub use Rattle.cbor_model.proofs.documents.Parts.{parts_bytes, storable_parts, parts_storable, parts_in_range}
-- what stands before its first number that isn't stored is so in its parts, and there is none where all is stored
pub use Rattle.cbor_model.proofs.documents.Unstored.{before_parts, all_stored, part_stored}
