-- What the writers of fields say.
pub mod Parts
