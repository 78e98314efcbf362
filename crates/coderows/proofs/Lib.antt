-- Laws of looking up, and what the proofs of several functions use.
pub mod Ascending
pub mod Halves
pub mod Lookup
pub mod Rows
pub mod ScopeList
pub mod Scopes
