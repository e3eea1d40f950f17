-- Published: values.

-- canonical bytes are those of one value, which is in range where they are fewer than 2^64
pub use Rattle.cbor_round_trip.proofs.CanonicalValues.{one_canonical, canonical_in_range}
-- what a value is, by what it holds
pub use Rattle.cbor_round_trip.proofs.Contents.{holds_bytes, holds_text, holds_array, holds_map, holds_tag}
-- that of an item isn't written for lack of memory alone
pub use Rattle.cbor_round_trip.proofs.Unwritten.{spelled_unwritten_for_memory}
