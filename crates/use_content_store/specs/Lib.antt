pub mod Log
pub mod Store
