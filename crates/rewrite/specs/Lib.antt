-- What the walk through a stream says.
pub mod Pieces
