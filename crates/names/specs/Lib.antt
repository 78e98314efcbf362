-- What the look-ups say.
pub mod Lookup
