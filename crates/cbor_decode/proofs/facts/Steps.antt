-- Published: one step of reading after another.

-- some bytes were taken, or none, and then more
pub use Rattle.cbor_read.proofs.facts.Sources.{some_then}
pub use Rattle.cbor_decode.proofs.Steps.{took_none, took_same, took_stays, advances_some}
-- steps
pub use Rattle.cbor_decode.proofs.Steps.{step_same, step_map, step_then}
-- what stops a part stops the whole
pub use Rattle.cbor_decode.proofs.Steps.{stopped_then, stopped_map}
-- and what is reported of it
pub use Rattle.cbor_decode.proofs.Steps.{why_then, why_map}
-- a fault before the bytes to come
pub use Rattle.cbor_decode.proofs.SourceCalls.{fault_stops}
-- what is kept, where it reports a fault
pub use Rattle.cbor_decode.proofs.SourceCalls.{kept_reports}
-- a refusal of a source
pub use Rattle.cbor_decode.proofs.SourceCalls.{source_stops}
pub use Rattle.cbor_decode.proofs.Steps.{byte_refused, refused_stops, taken_step, none_step}
-- a byte that was seen, and then taken
pub use Rattle.cbor_decode.proofs.Peeked.{peeked_step}
-- an error of one reading is one of another with the same fault
pub use Rattle.cbor_decode.proofs.Steps.{passed_on}
-- what a whole input is read as, and its fault, are the reference reader's
pub use Rattle.cbor_decode.proofs.All.{value_in, fault_in}
-- what was passed over was read, and what stops the one stops the other
pub use Rattle.cbor_decode.proofs.Skipped.{passed_was, passed_stops}
-- the error of a call that looks for the end reports why its step was refused
pub use Rattle.cbor_decode.proofs.AtEnd.{end_reported}
