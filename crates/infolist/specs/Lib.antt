-- What the listing of a stream needs.
pub mod Space
