-- What the proofs of several functions use.
pub mod RunSteps
pub mod Shows
pub mod Sizes
pub mod Written
