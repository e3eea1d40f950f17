-- Structs: which field a key names, and what a loop over them knows.
pub mod FieldNames
pub mod Slots
pub mod Structs
pub mod NewFieldPassed
pub mod StructLoops
pub mod StructMemory
