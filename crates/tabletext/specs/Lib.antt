-- A code table as text, and what a program has read of its input.
pub mod Text
pub mod Input
