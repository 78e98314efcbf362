-- What the writers of texts and values say.
pub mod Shown
