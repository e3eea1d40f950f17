-- What the crates above may cite of this crate's proofs, and nothing else.
pub mod Canonical
pub mod HeadNumbers
pub mod Laws
pub mod Maps
pub mod Order
pub mod Reader
pub mod Documents
pub mod Refusals
