-- What a walk over a stream and its cursor are, whatever the layout.
pub mod Walk
pub mod Stack
pub mod Cursors
pub mod Work
