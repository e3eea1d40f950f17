-- Arrays and tuples: their heads, their items, their ends.
pub mod Begins
pub mod Nexts
pub mod Sequences
pub mod Tuples
pub mod WholeArrays
