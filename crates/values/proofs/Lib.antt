-- Laws of how values are shown.
pub mod Parts
pub mod Marks
