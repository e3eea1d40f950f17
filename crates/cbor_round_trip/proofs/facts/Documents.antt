-- Published: what is so of the item of any document.

-- none of its strings is in chunks, but of what was encoded elsewhere: no scratch is needed to read it
pub use Rattle.cbor_round_trip.proofs.NoChunks.{no_chunks, items_unchunked}
-- how deep it nests, by its parts
pub use Rattle.cbor_round_trip.proofs.Nesting.{null_nests, bool_nests, integer_nests, bytes_nest, text_nests, unit_variant_nests, newtype_variant_nests, items_nest, sequence_nests}
pub use Rattle.cbor_round_trip.proofs.Nesting.{no_fields_nest, field_nests, field_if_nests, structure_nests}
-- a list of bytes is read back, and is storable
pub use Rattle.cbor_round_trip.proofs.Bytes.{bytes_fit, bytes_stored}
-- what is storable isn't written for lack of memory alone
pub use Rattle.cbor_round_trip.proofs.Unwritten.{unwritten_for_memory, refused_for_memory}
