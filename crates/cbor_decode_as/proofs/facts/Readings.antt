-- Published: what a refusal of one reading says of another.

-- after a step, or of what is made of it
pub use Rattle.cbor_decode_as.proofs.refused.Refusing.{refuses_by, refuses_fault, refuses_map}
pub use Rattle.cbor_decode_as.proofs.refused.Refusing.{refuses_memory, refuses_then}
-- before a source brought bytes to hand
pub use Rattle.cbor_decode_as.proofs.refused.Gathered.{read_gathered}
-- where memory ran out in what follows a step
pub use Rattle.cbor_decode_as.proofs.refused.Refusing.{OutOfMemoryAt, memory_by, memory_then}
-- an item that is read in some formats is read in all, and what stops it but the rule of keys stops it there
pub use Rattle.cbor_decode_as.proofs.heads.AnyFormats.{any_read, any_stops}
