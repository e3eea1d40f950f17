pub mod Numbers
pub mod Times
pub mod TimeLaw
