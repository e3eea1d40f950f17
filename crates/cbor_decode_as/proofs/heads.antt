-- The head of an item within its tags, what is passed over after it, and the first byte.
pub mod OfKind
pub mod Opened
pub mod Openings
pub mod PassedOver
pub mod PassedMemory
pub mod TagHeads
pub mod PassedTags
pub mod FirstByte
pub mod ItemsBehind
pub mod BeginningFaults
pub mod AnyItems
pub mod AnyFormats
