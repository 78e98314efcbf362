-- The words of a refusal.
pub mod Why
