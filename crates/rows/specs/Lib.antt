-- Rows as the code puts and gets them, and the answer for what was counted.
pub mod Put
pub mod Get
pub mod Writing
pub mod Counting
pub mod Acts
pub mod Judge
