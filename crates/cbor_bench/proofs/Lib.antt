pub mod OnlyMemory
