-- Laws of a text's lines and words.
pub mod WordLaws
pub mod ItemLaws
pub mod LineLaws
