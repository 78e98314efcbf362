-- What is shown of a Blob, line by line.
pub mod Lines
pub mod Rows
pub mod Shown
