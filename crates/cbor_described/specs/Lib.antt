pub mod Contents
pub mod EnumMemory
pub mod FieldLists
pub mod OneOfs
