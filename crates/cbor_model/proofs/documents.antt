-- Documents: their parts, their bytes, and what of them is stored.
pub mod SliceWrites
pub mod Documents
pub mod Parts
pub mod Unstored
pub mod InDocuments
