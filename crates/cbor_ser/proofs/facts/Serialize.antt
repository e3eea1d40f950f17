-- Published: the proof of a type's own `serialize`.

-- a document's parts are written; one part and then the rest; the exit of a `?` at the head, and at a
-- later part; the call that ends it; the documents of a list in a fold
pub use Rattle.cbor_ser.proofs.Users.{by_parts, and_then, head_stops, stops, ends, docs_of}
