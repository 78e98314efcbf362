-- What the writers of the listing say.
pub mod Numbers
pub mod InfoLine
pub mod Shown
pub mod Bound
pub mod Written
