pub mod CompareWords
pub mod WrittenFronts
pub mod Utf8Block
pub mod Utf8Chars
pub mod Utf8States
pub mod Utf8Table
