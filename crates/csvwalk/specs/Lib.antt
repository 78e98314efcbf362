-- What the records of nodes take of a room.
pub mod Needs
