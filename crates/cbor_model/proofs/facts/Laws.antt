-- Published: laws.

-- about what is read
pub use Rattle.cbor_model.proofs.Proved.{reader_accepts, value_is_storable, value_is_canonical}
-- about what a scratch changes
pub use Rattle.cbor_model.proofs.Proved.{scratch_need}
-- about spellings
pub use Rattle.cbor_model.proofs.Proved.{one_spelling}
-- about canonical spellings
pub use Rattle.cbor_model.proofs.Proved.{byte_order, equal_bytes, least_spelling, normalised_once, canonical_reads_back}
-- about values in memory
pub use Rattle.cbor_model.proofs.Proved.{in_memory_is_in_range, written_reads_back}
-- about documents
pub use Rattle.cbor_model.proofs.Proved.{document_is_acceptable}
-- an item has no more levels than bytes
pub use Rattle.cbor_model.proofs.documents.InDocuments.{depth-le}
