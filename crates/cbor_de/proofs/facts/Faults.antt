-- Published: which fault of the bytes a refusal reports, where parts are read one after the other.

-- what an error says of a reading, if it reports a fault: of the reading alone, of another which it stops, and after
-- a step
pub use Rattle.cbor_de.proofs.refusals.OwnFaults.{IsTold, if_any_map, if_any_then, if_told_map, if_told_then}
pub use Rattle.cbor_de.proofs.refusals.OwnFaults.{memory_if_any, message_if_any, reported_if_any, said_if_any}
-- and of the item at the front: by what is said of its type, before a source brought bytes to hand, and of a head
pub use Rattle.cbor_de.proofs.refusals.OwnFaults.{beginning_fault, err_gathered, item_fault, item_gathered, own_err_gathered}
-- of one of two types
pub use Rattle.cbor_de.proofs.refusals.OwnFaults.{first_reports, other_reports}
-- an array: its head, another item, and the fault of what remains
pub use Rattle.cbor_de.proofs.parts.ArrayFaults.{StopsArray, array_begins, array_fault, array_goes_on}
-- the items that remain: whether one comes, the one that comes, those behind it, and the end
pub use Rattle.cbor_de.proofs.parts.ArrayFaults.{came_err, came_fault, came_where, end_err, end_fault}
pub use Rattle.cbor_de.proofs.parts.ArrayFaults.{next_fault, no_end_fault, others_fault}
