-- Laws of a Blob's listing; the public ones serve the programs that print it.
pub mod BlobLaws
pub mod InputLaws
pub mod Whole
