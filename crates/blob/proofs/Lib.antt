-- Laws of parts of a slice and of what a Blob comes to, for the proofs of several functions.
pub mod PartLaws
pub mod ExitLaws
pub mod ReaderLaws
