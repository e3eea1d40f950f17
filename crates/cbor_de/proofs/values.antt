-- What items are read as.
pub mod Values
pub mod OfValues
pub mod RawValues
pub mod Characters
pub mod ByteStrings
pub mod Made
