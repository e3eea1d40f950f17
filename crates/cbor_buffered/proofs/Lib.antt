pub mod BlockBytes
pub mod Refusals
pub mod TakenInTurn
