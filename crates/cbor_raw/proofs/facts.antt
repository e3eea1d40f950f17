-- What the crates above may cite of this crate's proofs, and nothing else.
pub mod Gathered
