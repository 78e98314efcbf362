-- What a row that was read is.
pub mod Rows
