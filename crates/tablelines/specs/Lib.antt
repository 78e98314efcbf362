-- What the lines of a code table's text say.
pub mod Faults
pub mod Words
pub mod Items
