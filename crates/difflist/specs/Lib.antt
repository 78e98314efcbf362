-- What the program prints.
pub mod Lines
pub mod Listed
