mod Alone
mod NotReadFurther
mod Kept
pub mod Gathering
pub mod facts
