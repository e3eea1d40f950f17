-- Published: what a reading says of another.

-- where a type reads every item, one promise for another
pub use Rattle.cbor_de.proofs.refusals.Faults.{where_map}
-- what is read as a value is the value of the item that is read
pub use Rattle.cbor_decode.proofs.facts.Readings.{along, value_seen}
-- an item that is read whatever it is, and isn't there, is no item at all
pub use Rattle.cbor_de.proofs.structs.FieldNames.{no_item}
-- what is read behind a call that took nothing
pub use Rattle.cbor_de.proofs.parts.AtHand.{read_here}
-- what is known after a source brought bytes to hand, of the input before
pub use Rattle.cbor_de.proofs.taken.Gathered.{memory_err_gathered, ok_gathered}
