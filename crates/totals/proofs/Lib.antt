-- What the proofs of several functions use.
pub mod PlaceLaws
pub mod AddsLaws
pub mod SumLaws
