-- Laws of the line that says which rule is broken.
pub mod Sentences
pub mod Longest
