-- Laws that the functions' proofs cite, and whoever has the rows of a reading.
pub mod Turns
pub mod Steps
pub mod SheetLaws
