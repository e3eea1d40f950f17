-- The order of values, and of the bytes of their canonical spellings.
pub mod Same
pub mod Compared
pub mod Pairs
pub mod Puts
pub mod Apart
pub mod HeadOrder
pub mod ByteOrder
pub mod Least
