-- The proof of a type's own `serialize`.
pub use Rattle.cbor_ser.proofs.facts.Serialize.{by_parts, and_then, head_stops, stops, ends, docs_of}
