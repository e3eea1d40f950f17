pub mod reader
pub mod values
pub mod order
pub mod documents
pub mod refusals
pub mod Proved
pub mod facts
