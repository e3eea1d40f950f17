pub mod IntegerKeys
pub mod Defaults
