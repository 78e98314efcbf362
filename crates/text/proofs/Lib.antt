-- Laws of the writers; the public ones serve whoever writes more than a GUID or a label.
pub mod Chain
pub mod Copies
pub mod Remains
pub mod Arms
pub mod Digits
pub mod Written
