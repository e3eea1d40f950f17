-- The value of an item: storable, ordered, in range, and read back.
pub mod Storable
pub mod ReadsBack
pub mod Canonical
pub mod Counts
pub mod Normal
pub mod InRange
pub mod InMemory
