-- Whole inputs, and streams of items.
pub mod Inputs
pub mod WholeAnswers
pub mod StreamSteps
pub mod StreamAnswers
pub mod StreamedValues
