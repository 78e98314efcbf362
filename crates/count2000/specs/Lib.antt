-- What the counting of an Access 2000 stream answers.
pub mod Told
