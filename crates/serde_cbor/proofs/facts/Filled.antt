-- A map that is filled from a list, one entry after the other.
pub use Rattle.cbor_round_trip.proofs.facts.Filled.{has_none, has_same, has_more, none_else, put_again, mapped_pick}
