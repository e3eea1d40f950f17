pub mod Departure
pub mod Walk
pub mod Strict
pub mod Walks
pub mod StrictRefusals
pub mod StrictAnswers
