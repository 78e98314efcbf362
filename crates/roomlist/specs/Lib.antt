-- What is printed of room.
pub mod Rooms
