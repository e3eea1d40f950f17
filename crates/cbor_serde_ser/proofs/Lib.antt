pub mod StringsInMemory
pub mod Due
pub mod Levels
pub mod Opening
pub mod Refusing
pub mod Running
mod Fieldless
pub mod DocumentItem
