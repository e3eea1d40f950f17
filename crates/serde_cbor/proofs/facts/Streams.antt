-- What proves a loop over a stream whose source is a reader.
pub use Rattle.cbor_de.proofs.facts.Streams.{none_streamed, one_streamed, all_streamed, most_streamed}
-- the same of a stream of values, by the items that it has given
pub use Rattle.cbor_round_trip.proofs.facts.Streams.{no_item_streamed, one_item_streamed, all_items_streamed, most_items_streamed, memory_fault}
