-- What the functions of this crate ask and leave, by the definitions of the later layout.
pub mod Write
pub mod Groups
