-- Laws that the functions' proofs cite; the public ones serve other crates too.
pub mod Inverse
pub mod Extents
pub mod Runs
pub mod Grows
pub mod Room
