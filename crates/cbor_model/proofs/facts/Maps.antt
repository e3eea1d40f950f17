-- Published: pairs in the order of their keys.

-- a key below pairs
pub use Rattle.cbor_model.proofs.order.Pairs.{IsBelow-trans, put-below, find-below}
-- one pair put in, or a key left out: ascending, ordered, and as a finite map
pub use Rattle.cbor_model.proofs.order.Pairs.{KeysAscend-put, KeysAscend-without, KeysAscend-from_IsOrdered, IsOrdered-put, IsOrdered-without}
pub use Rattle.cbor_model.proofs.order.Pairs.{get-finite_map, len-finite_map, finite_map-put, finite_map-without}
-- many pairs put in
pub use Rattle.cbor_model.proofs.order.Puts.{KeysAscend-put_all, put_all-ascending, find-put_all, same_pairs}
