-- Laws of the text; the public ones serve whoever writes or bounds it.
pub mod Lines
pub mod Longest
pub mod Room
pub mod Told
