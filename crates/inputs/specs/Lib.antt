-- What is told of an input that is read into a lent buffer.
pub mod Filled
pub mod Begun
pub mod Lent
