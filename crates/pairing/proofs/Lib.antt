-- What the proofs of several functions use.
pub mod NameLaws
pub mod RowLaws
pub mod TypeLaws
pub mod ExitLaws
