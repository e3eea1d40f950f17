-- What is read as a `Value`.
pub use Rattle.cbor_de.proofs.facts.Values.{spelled_value, is_canonical}
-- what is made of a value that was read, or that none was
pub use Rattle.cbor_de.proofs.facts.Values.{value_made, no_value}
-- what a value stands for
pub use Rattle.cbor_de.proofs.facts.Values.{view_text, view_array, view_map}
-- what a call from a slice and one from a reader answer, for the law `sources_agree`
pub use Rattle.cbor_de.proofs.facts.Values.{reading, reading_of_reader}
-- what one is, by what it holds
pub use Rattle.cbor_round_trip.proofs.facts.Values.{holds_bytes, holds_text, holds_array, holds_map, holds_tag}
-- canonical bytes are those of one value, which is in range where they are fewer than 2^64
pub use Rattle.cbor_round_trip.proofs.facts.Values.{one_canonical, canonical_in_range}
-- that of an item isn't written for lack of memory alone
pub use Rattle.cbor_round_trip.proofs.facts.Values.{spelled_unwritten_for_memory}
