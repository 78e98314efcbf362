-- Laws of what the program prints.
pub mod Printing
