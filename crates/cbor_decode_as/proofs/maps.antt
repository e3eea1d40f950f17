-- Maps: their heads, keys and pairs.
pub mod NextKeys
pub mod PairsRead
pub mod BadKeys
