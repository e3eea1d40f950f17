-- Published: what bytes say that are one item, within some levels of nesting.

-- what was written says its value, and no other, where it holds no string in chunks of another encoder
pub use Rattle.cbor_round_trip.proofs.Said.{says_written, vec_says_written}
-- what is read from a slice with a scratch: an item and the end; or why not
pub use Rattle.cbor_round_trip.proofs.Said.{whole_read, front_refused, end_refused}
