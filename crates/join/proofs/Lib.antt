-- Laws that the proofs of the walks cite.
mod Turns
mod Writing
mod RowLaws
mod ScopeLaws
mod HeadLaws
mod Exits
