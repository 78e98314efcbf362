-- Laws of the search for a broken rule.
pub mod Turns
pub mod Found
