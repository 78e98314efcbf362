-- What the proofs of several functions use.
pub mod RunLaws
pub mod Whole
