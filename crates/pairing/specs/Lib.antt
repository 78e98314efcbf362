-- What the search for a name says.
pub mod Wanted
