-- Laws of judging a text, of the table that it says, and of a table's own text.
pub mod Judging
pub mod Parts
pub mod Formed
pub mod Making
pub mod SaidBytes
pub mod TextLines
pub mod Undone
pub mod WorkedText
