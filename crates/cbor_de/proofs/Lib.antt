pub mod taken
pub mod parts
pub mod structs
pub mod refusals
pub mod maps
pub mod values
pub mod inputs
pub mod facts
