-- What the program prints.
pub mod Respelled
