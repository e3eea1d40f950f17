-- Arrays, maps and enums, one part after the other.
pub mod Elements
pub mod ItemLists
pub mod WholeMaps
pub mod Enums
pub mod AtHand
pub mod ArrayFaults
pub mod EnumFaults
