-- What the writers of a paired listing say.
pub mod Pairs
pub mod Told
