-- Published: items whose encodings stand one after the other.

-- bytes begin with one item at most, and no item has no bytes
pub use Rattle.cbor_round_trip.proofs.ItemLists.{same_item, some_bytes}
-- one item, one list behind another, and the bytes of a list alone
pub use Rattle.cbor_round_trip.proofs.ItemLists.{one_item, items_joined, items_alone}
-- the longest list, and a list that is a front of another
pub use Rattle.cbor_round_trip.proofs.ItemLists.{longest_items, front_of_items}
-- what is whole where they are cut off, and what refuses the rest
pub use Rattle.cbor_round_trip.proofs.CutOff.{cut_off, whole_are_most, rest_goes_on, excused_no_cut}
