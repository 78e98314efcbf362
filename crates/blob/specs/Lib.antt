-- What the readers of a Blob answer.
pub mod Exit
