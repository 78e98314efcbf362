-- What the proofs of several functions use.
pub mod Types
pub mod NodeLaws
