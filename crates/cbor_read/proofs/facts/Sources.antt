-- Published: what proves a source of one's own.

-- a call that appends was refused, took nothing, and changed nothing
pub use Rattle.cbor_read.proofs.Lengthened.{none_taken}
-- some bytes were taken, and then more
pub use Rattle.cbor_read.proofs.ReaderSteps.{kept_none, kept_some, some_then}
-- nothing was taken, and then nothing
pub use Rattle.cbor_read.proofs.ReaderSteps.{stays_same, stays_then}
