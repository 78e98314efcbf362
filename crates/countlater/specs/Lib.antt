-- What the counting of a later stream answers.
pub mod Count
