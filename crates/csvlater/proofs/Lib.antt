-- What the proofs of several functions use.
pub mod GroupRoom
pub mod Whole
