-- What the crates above may cite of the proofs below, and nothing else.
pub mod Values
pub mod Strict
pub mod Serialize
pub mod Structs
pub mod Enums
pub mod Sources
pub mod Streams
pub mod Documents
pub mod Items
pub mod Said
pub mod Canonical
pub mod Sequences
pub mod Filled
