pub mod Meaning
pub mod Builders
pub mod Tagged
pub mod Encoded
pub mod ReadWritten
