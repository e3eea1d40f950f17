pub mod Compare
pub mod Place
pub mod Error
pub mod Head
pub mod ReadError
pub mod Utf8
pub mod Write
