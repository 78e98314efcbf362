-- What the proofs of several functions use, and what a whole list is.
pub mod ListingLaws
pub mod PropertyLaws
pub mod RunLaws
pub mod Walking
pub mod Whole
