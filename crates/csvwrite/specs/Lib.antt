-- When there is room, and what the writer leaves.
pub mod Sheet
