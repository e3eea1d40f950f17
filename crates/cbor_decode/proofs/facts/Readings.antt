-- Published: what is read as it is spelled.

-- its value is what is read as a value
pub use Rattle.cbor_decode.proofs.Mapped.{along, value_seen}
