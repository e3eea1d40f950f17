-- The first refusal of strict reading.
pub use Rattle.cbor_strict.proofs.facts.Refusals.{one_first_strict}
