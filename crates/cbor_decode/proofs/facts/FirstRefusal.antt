-- Published: the first refusal, as an error reports it.

-- a fault of the reference reader is the first refusal of the whole input
pub use Rattle.cbor_decode.proofs.FirstRefusal.{first_or_memory, first_or_fault}
-- and one of the item at the front of the bytes to come is the item's
pub use Rattle.cbor_decode.proofs.FirstRefusal.{item_limits, item_first}
-- two errors of one input, and one with a scratch
pub use Rattle.cbor_decode.proofs.FirstRefusal.{same_error, without_scratch}
