-- Published: what a refusal says of the reading that it stops.

-- a fault that is reported is excused, or was met
pub use Rattle.cbor_decode_as.proofs.numbers.Scalars.{excused_or}
-- what a fault stops isn't read, and the error of a refusal reports the fault
pub use Rattle.cbor_decode_as.proofs.numbers.Scalars.{refuses, reported_by, reported_why}
-- further bytes were taken
pub use Rattle.cbor_decode_as.proofs.numbers.Scalars.{refuses_on}
-- an error that isn't lack of memory says nothing of items that take some
pub use Rattle.cbor_decode_as.proofs.numbers.Scalars.{other_code}
-- where memory ran out, what the refusal says of it holds
pub use Rattle.cbor_decode_as.proofs.texts.MemoryAsked.{error_only}
-- a refusal of the item at the front: by its fault, or by a message where one stands there
pub use Rattle.cbor_decode_as.proofs.heads.PassedOver.{stands_err}
-- what a type's refusal reports, by what is said of the type
pub use Rattle.cbor_decode_as.proofs.heads.PassedOver.{always, item_only, item_passes, item_total, passes_reported, reports_both, reports_map, total_reported}
-- the fault of the item at the front, if the error reports one
pub use Rattle.cbor_decode_as.proofs.enums.ContentFaults.{formats_if_any}
pub use Rattle.cbor_decode_as.proofs.refused.Faults.{whole_if_any}
