pub mod Asking
pub mod InPlace
pub mod Inputs
pub mod Lengthened
pub mod Lent
pub mod ReaderSteps
pub mod facts
