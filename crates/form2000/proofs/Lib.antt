-- What the proofs of several functions use.
pub mod Visits
pub mod Walking
pub mod Whole
pub mod Writes
