-- What the exported functions hand back, in structs laid out as C's.
pub mod Handed
