-- What is counted of a reading, whatever the layout.
pub mod Places
