pub mod Printing
pub mod Formatters
pub mod Layouts
pub mod Characters
pub mod Items
pub mod Numerals
