-- What the walk over an Access 2000 stream asks of its callers and takes of a room.
pub mod Room
