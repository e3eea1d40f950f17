pub mod Memory
pub mod Asked
pub mod Steps
pub mod SourceCalls
pub mod Peeked
pub mod Ended
pub mod Heads
pub mod ShortHeads
pub mod AtEnd
mod AtHand
mod WholeHeads
pub mod Chunk
pub mod Chunks
pub mod Items
pub mod Pairs
pub mod Inside
pub mod Texts
pub mod Numbers
pub mod All
pub mod FirstRefusal
pub mod Mapped
pub mod SkippedChunks
pub mod Skipped
pub mod SkippedStrings
pub mod facts
