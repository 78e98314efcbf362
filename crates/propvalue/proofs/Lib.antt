-- Laws that the functions' proofs cite; the public ones serve other crates too.
pub mod Sizes
pub mod Values
