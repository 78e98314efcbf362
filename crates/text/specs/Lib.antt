-- What the writers of text say.
pub mod Writer
pub mod Copies
