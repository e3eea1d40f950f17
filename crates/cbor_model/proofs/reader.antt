-- The reference reader: what it reads is spelled so, and what is spelled so it reads.
pub mod ReaderSteps
pub mod Majors
pub mod MadeItems
pub mod BytesTaken
pub mod Fuel
pub mod FirstBytes
pub mod FoundParts
pub mod Found
pub mod Again
pub mod Bytes
pub mod Texts
pub mod Whole
pub mod Agrees
pub mod Scratch
pub mod RawReader
pub mod Encoding
