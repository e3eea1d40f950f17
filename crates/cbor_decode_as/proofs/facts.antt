-- What the crates above may cite of this crate's proofs, and nothing else.
pub mod TaggedHeads
pub mod Items
pub mod Refusals
pub mod Nulls
pub mod Strings
pub mod Collections
pub mod Arrays
pub mod Tuples
pub mod Maps
pub mod Enums
pub mod Readings
pub mod Places
pub mod Names
