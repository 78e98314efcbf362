-- What the contracts say beyond the definitions of rules.
pub mod Next
