-- What the search for matches says.
pub mod Match
