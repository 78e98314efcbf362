-- What the program prints.
pub mod Counted
