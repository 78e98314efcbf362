-- What the values' contracts say beyond the definitions of rules.
pub mod Parts
pub mod Sized
