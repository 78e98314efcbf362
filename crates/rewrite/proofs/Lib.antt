-- Laws that the proofs of the walks cite.
mod Slices
mod PropertyLaws
mod OpeningLaws
mod Flat
mod Walks
