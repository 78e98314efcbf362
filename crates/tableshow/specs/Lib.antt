-- What is shown of a table.
pub mod Shown
