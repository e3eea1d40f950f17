-- Maps: what stops the reading of a part stops the whole item.
pub mod MapFaults
