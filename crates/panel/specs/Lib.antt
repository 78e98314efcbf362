-- The rules of panels by the rows, and the marks of names.
pub mod ByRows  -- controls by their rows, and what is asked of rows that are judged
pub mod Marks  -- marks of names
pub mod Sources  -- the first source among property rows
pub mod Tried  -- a row tried, and the rule that it breaks
