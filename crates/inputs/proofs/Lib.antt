-- Laws of an input that was read.
pub mod Came
