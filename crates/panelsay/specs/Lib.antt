-- What the program prints.
pub mod Judged
