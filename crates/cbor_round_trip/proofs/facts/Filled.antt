-- Published: a map that is filled from a list, one entry after the other.

-- of no item, of the same, of one more
pub use Rattle.cbor_round_trip.proofs.Filled.{has_none, has_same, has_more}
-- nothing else stands at the key of one, and what stands there is put there again
pub use Rattle.cbor_round_trip.proofs.Filled.{none_else, put_again}
-- what a function makes of what a test picks
pub use Rattle.cbor_round_trip.proofs.Filled.{mapped_pick}
