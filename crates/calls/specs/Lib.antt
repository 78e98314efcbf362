-- What is promised, of every call of the public functions. (`claims` says it over the definitions of `rules`; its Lib.antt says how to read these files.)
pub mod Promises  -- all that is promised, in one place
pub mod Always  -- what can be said of a function itself
pub mod Functions  -- the public functions, and names for what they are handed
pub mod JoiningCalls  -- wish 12 for any number of tables, of calls
pub mod CountCalls  -- wish 4, of calls: one after the other, and beside read_blob
pub mod DifferingCalls  -- what a newer table changes, of calls: the list, and beside two readings
pub mod Calls  -- what is promised of the functions' calls, and that their contracts allow one result
