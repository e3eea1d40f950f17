pub mod ItemAtFront
pub mod Rests
pub mod Scanned
