-- What the walk over a later stream asks of its callers and takes of a room.
pub mod Room
