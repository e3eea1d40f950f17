-- Published: the faults of the bytes, as the parts of a map report them, and so the whole map, whatever
-- formats its keys are of.

-- what a loop over the pairs keeps: what stops those that remain stops the whole item
pub use Rattle.cbor_de.proofs.maps.MapFaults.{MapBehind, map_behind, pair_goes_on}
-- an item that was read, whatever formats its keys are of
pub use Rattle.cbor_de.proofs.maps.MapFaults.{AnyRead, item_passes}
-- the fault of the next key, of a value and of the end
pub use Rattle.cbor_de.proofs.maps.MapFaults.{end_told, key_fault, key_told, value_told}
