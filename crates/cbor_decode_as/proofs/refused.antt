-- What refusals report: their codes, their cases, and one reading after another.
pub mod Cases
pub mod Codes
pub mod Refusing
pub mod Gathered
pub mod Faults
