-- What the listing of an input needs.
pub mod Space
