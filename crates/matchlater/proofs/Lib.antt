-- Laws of matches and of the scan that starts from them.
pub mod MatchLaws
