-- Laws that the functions' proofs cite; the public ones serve other crates too.
pub mod Inside
pub mod Past
pub mod Widening
