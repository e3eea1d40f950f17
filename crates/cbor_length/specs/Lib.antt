pub mod Trace
pub mod Count
