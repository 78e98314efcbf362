-- Laws of look-up; what is said of the lent directory stands in Directory and InOrder alone.
pub mod Both
pub mod Bracket
pub mod Directory
pub mod Marks
pub mod InOrder
pub mod Short
