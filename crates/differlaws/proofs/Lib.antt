-- Laws about the differences that a newer code table makes, for `claims` and for the crate whose code lists them.
pub mod DifferencesLaws
