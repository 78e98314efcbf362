-- Laws that the functions' proofs cite, and worked examples.
pub mod ShownLaws
mod Worked
