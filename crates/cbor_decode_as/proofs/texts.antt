-- Strings and names, owned and lent.
pub mod PassedStrings
pub mod PassedLent
pub mod StringContents
pub mod MemoryAsked
pub mod Lending
pub mod ByteStrings
pub mod ShortTexts
pub mod Characters
pub mod Identifiers
pub mod ShortNames
pub mod NamedFaults
pub mod NamedItems
