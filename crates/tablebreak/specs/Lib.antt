-- Where a code table breaks a rule.
pub mod Rules
