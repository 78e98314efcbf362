-- What the proofs of several functions use.
pub mod Entries
pub mod Lists
pub mod Streams
