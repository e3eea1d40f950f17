pub mod Prints
pub mod Layout
pub mod Texts
pub mod Numerals
pub mod Notation
