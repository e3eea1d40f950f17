-- What bytes say that are one item, within some levels of nesting.
pub use Rattle.cbor_round_trip.proofs.facts.Said.{says_written, vec_says_written, whole_read, front_refused, end_refused}
