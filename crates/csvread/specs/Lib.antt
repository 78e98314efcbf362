-- Where a text is read, and what is written there.
pub mod Places
