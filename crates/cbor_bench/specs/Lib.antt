pub mod Record
pub mod Request
