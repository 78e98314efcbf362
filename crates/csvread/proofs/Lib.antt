-- Laws for the proofs of the functions.
pub mod ByteLaws
pub mod CountLaws
pub mod WriteLaws
pub mod Exits
