pub mod Lending
pub mod Reader
pub mod Source
pub mod Sources
