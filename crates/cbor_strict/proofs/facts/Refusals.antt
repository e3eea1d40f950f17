-- Published: the first refusal of strict reading.

-- there is at most one
pub use Rattle.cbor_strict.proofs.FirstRefusals.{one_first_strict}
