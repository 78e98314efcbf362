-- Laws of the lines and of the listing.
pub mod Placed
pub mod Rows
pub mod InfoName
pub mod InfoRow
pub mod Longest
pub mod Printed
pub mod Walked
