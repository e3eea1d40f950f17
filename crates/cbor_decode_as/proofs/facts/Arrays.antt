-- Published: arrays, of which one item is read after the other.

-- an array as its items, and what is read as one
pub use Rattle.cbor_decode_as.proofs.arrays.WholeArrays.{NoItems, array_refused, array_takes_to}
pub use Rattle.cbor_decode_as.proofs.arrays.WholeArrays.{end_lacks, end_refused, end_step, end_twice}
pub use Rattle.cbor_decode_as.proofs.arrays.WholeArrays.{loop_begins, loop_goes_on, loop_refused}
pub use Rattle.cbor_decode_as.proofs.arrays.WholeArrays.{no_array_read, part_goes_on, part_lacks}
-- what was read so far of its items
pub use Rattle.cbor_decode_as.proofs.arrays.Sequences.{EachRead, MustFollow, SoFar, append, append-push}
pub use Rattle.cbor_decode_as.proofs.arrays.Sequences.{begins, goes_on, no_part_rest, rest_of, with_front}
pub use Rattle.cbor_decode_as.proofs.arrays.Sequences.{each_all, each_length, each_more, each_none}
pub use Rattle.cbor_decode_as.proofs.arrays.Sequences.{is_done, may_follow, must_follow, none_of_none}
pub use Rattle.cbor_decode_as.proofs.arrays.Sequences.{rest_read}
-- the next item
pub use Rattle.cbor_decode_as.proofs.arrays.Nexts.{NoPart, comes, item_asks, item_next, item_refused}
pub use Rattle.cbor_decode_as.proofs.arrays.Nexts.{part_missing, part_refused}
