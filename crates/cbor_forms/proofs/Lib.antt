mod WholeOfBits
mod DistinctKeys
mod Shortening
mod Forms
mod SameNumbers
mod NotWritten
mod Encoding
mod Sorted
mod ReadBack
pub mod FormItems
