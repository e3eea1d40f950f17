pub mod SentBlocks
pub mod Values
