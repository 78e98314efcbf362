-- What the program prints.
pub mod Sheets
