-- What the crates above may cite of this crate's proofs, and nothing else.
pub mod FirstRefusal
pub mod Heads
pub mod Memory
pub mod Readings
pub mod Steps
