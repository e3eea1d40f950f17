pub mod Reduced
pub mod WholeOfBits
pub mod Shortened
pub mod Deterministic
pub mod LengthFirst
pub mod FormEncoding
