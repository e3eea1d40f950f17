pub mod Numbers
pub mod Times
