-- What it means to make a code table of its text.
pub mod Judged
pub mod Made
pub mod Undone
