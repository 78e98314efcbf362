-- What the proofs of several functions use.
pub mod GroupLaws
pub mod ReadLaws
