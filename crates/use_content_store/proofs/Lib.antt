mod Keeping
mod Law
