-- What the walks through two tables say.
pub mod Walk
