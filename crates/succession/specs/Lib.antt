-- For which row of a code table another has another or none, and how the code says it.
pub mod Lacks
pub mod Found
