-- Laws of fields.
pub mod Fields
pub mod Tables
