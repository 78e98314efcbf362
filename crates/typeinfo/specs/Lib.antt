-- The entries of a TypeInfo stream, as the code reads them.
pub mod Entries
