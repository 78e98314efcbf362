-- What the writer of an Access 2000 stream asks of its callers and leaves.
pub mod Acts
