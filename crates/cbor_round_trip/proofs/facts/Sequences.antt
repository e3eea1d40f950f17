-- Published: a sequence of items that is read up to an offset, or written.

-- what is known there of a stream: where it has given its last item, or an error
pub use Rattle.cbor_round_trip.proofs.Sequences.{up_to, whole_at_end, whole_at_cut, broken_there}
-- what is known of one that was cut off
pub use Rattle.cbor_round_trip.proofs.Sequences.{whole_before_cut, never_broken, next_of_items}
-- one list of acceptable items behind another
pub use Rattle.cbor_round_trip.proofs.ItemLists.{each_joined}
-- what a refusal says of a value that was read, and what a sink was given
pub use Rattle.cbor_round_trip.proofs.Sequences.{refused_again, written_again, all_written}
