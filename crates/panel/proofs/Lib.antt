-- Names, types, properties and rules by the words of rows; marks of names; a reading's rows as its controls again.
pub mod NameLaws
pub mod TypeLaws
pub mod PropertyLaws
pub mod RuleLaws
pub mod MarkLaws
pub mod ReadLaws
