-- Laws of what is found and said; the public ones serve whoever prints it.
mod Heads
pub mod Clashes
pub mod Longest
