-- What is so of the item of any document.
pub use Rattle.cbor_round_trip.proofs.facts.Documents.{no_chunks, items_unchunked}
-- how deep it nests, by its parts
pub use Rattle.cbor_round_trip.proofs.facts.Documents.{null_nests, bool_nests, integer_nests, bytes_nest, text_nests, unit_variant_nests, newtype_variant_nests, items_nest, sequence_nests}
pub use Rattle.cbor_round_trip.proofs.facts.Documents.{no_fields_nest, field_nests, field_if_nests, structure_nests}
-- a list of bytes is read back, and is storable
pub use Rattle.cbor_round_trip.proofs.facts.Documents.{bytes_fit, bytes_stored}
-- what is storable isn't written for lack of memory alone
pub use Rattle.cbor_round_trip.proofs.facts.Documents.{unwritten_for_memory, refused_for_memory}
