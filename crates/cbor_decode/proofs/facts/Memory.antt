-- Published: where memory may be asked for.

-- what follows from it
pub use Rattle.cbor_decode.proofs.Asked.{asks_on}
