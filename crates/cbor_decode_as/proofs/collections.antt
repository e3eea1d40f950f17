-- Arrays and maps as one: their heads.
pub mod Kinds
pub mod Heads
