-- Laws of the TypeInfo reader; those of entries serve whoever lists them.
pub mod NulLaws
pub mod EntryLaws
pub mod HeaderLaws
pub mod ExitLaws
