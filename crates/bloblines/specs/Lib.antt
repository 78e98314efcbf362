-- What the writers of a Blob's listing say.
pub mod Blobs
pub mod Listed
