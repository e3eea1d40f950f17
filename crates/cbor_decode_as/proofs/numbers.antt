-- Items that are whole with their head: simple values, numbers and floats.
pub mod Scalars
pub mod Numbers
pub mod FloatNumbers
pub mod Nulls
pub mod WholeNumbers
pub mod FloatHeads
