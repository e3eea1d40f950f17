-- What the crates above may cite of this crate's proofs, and nothing else.
pub mod Documents
pub mod Values
pub mod Items
pub mod Streams
pub mod Said
pub mod Sequences
pub mod Filled
