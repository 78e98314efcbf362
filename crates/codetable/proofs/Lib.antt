-- Laws of the code table, and what the proofs of several functions use.
pub mod Steps
