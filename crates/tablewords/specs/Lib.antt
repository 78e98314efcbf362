-- How it is said where a code table breaks a rule.
pub mod Words
