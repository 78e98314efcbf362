-- Laws about the definition of totals, for `claims` and for the crates whose code counts.
pub mod TallyLaws
pub mod MarkLaws
pub mod TotalsLaws
