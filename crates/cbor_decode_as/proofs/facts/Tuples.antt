-- Published: arrays of so many items, each read as a type of its own.

-- the items that were read, and those that follow
pub use Rattle.cbor_decode_as.proofs.arrays.Tuples.{Empty, Then, empty_rest, first_follows, none_all}
pub use Rattle.cbor_decode_as.proofs.arrays.Tuples.{one_more}
