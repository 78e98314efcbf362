-- What the proofs of several functions use.
pub mod RunRoom
pub mod Whole
