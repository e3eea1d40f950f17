-- Items whose encodings stand one after the other.
pub use Rattle.cbor_round_trip.proofs.facts.Items.{same_item, some_bytes, one_item, items_joined, items_alone, longest_items, front_of_items}
-- what is whole where they are cut off, and what refuses the rest
pub use Rattle.cbor_round_trip.proofs.facts.Items.{cut_off, whole_are_most, rest_goes_on, excused_no_cut}
