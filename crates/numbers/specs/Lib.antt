-- What the contracts say beyond the definitions of rules.
pub mod Int
pub mod Reads
pub mod Wide
