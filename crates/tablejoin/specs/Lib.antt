-- What the program prints.
pub mod Said
