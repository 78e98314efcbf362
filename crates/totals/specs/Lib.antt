-- The record of totals, and what a call leaves in it.
pub mod Laid
pub mod Exit
