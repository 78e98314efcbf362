-- What the clauses of the standard streams cite.
pub mod Counts
