pub mod Answer
pub mod Run
pub mod RunSteps
pub mod Sequence
pub mod SequenceSteps
