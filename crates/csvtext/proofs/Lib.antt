-- Laws that the functions' proofs cite.
pub mod Spelling
pub mod UnitLaws
pub mod LetterLaws
