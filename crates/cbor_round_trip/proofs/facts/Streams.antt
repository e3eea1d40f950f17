-- Published: the items whose values a stream over a reader has given, for the invariant of a loop
-- over it.

-- none yet, another, all, or the longest list of items
pub use Rattle.cbor_round_trip.proofs.StreamedItems.{no_item_streamed, one_item_streamed, all_items_streamed, most_items_streamed, memory_fault}
