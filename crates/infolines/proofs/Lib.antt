-- Laws of a TypeInfo stream's listing; the public ones serve the program that prints it.
pub mod Printed
pub mod Longest
