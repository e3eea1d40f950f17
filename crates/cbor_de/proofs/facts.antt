-- What the crates above may cite of this crate's proofs, and nothing else.
pub mod Readings
pub mod Values
pub mod Structs
pub mod Enums
pub mod Faults
pub mod Forms
pub mod Streams
pub mod MapFaults
