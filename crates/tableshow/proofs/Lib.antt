-- Laws of what is shown of a table.
pub mod Printed
