pub mod GivenByBlocks
pub mod Held
pub mod Unsent
