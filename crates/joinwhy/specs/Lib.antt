-- Why two code tables can't be joined, and how the code says it.
pub mod Why
