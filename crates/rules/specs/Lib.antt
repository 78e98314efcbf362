-- Document 01 as definitions. Beside each file stands the section of the document that it says.
-- How to read them: `abbrev` and `unfoldable` begin a definition, `pub` lets other files name it. `a ∷ b ∷ []` is a list, `++` puts one list behind
-- another, `.0` and `.1` are the first and the second of a pair. `Option A` is an A that may be missing: `none`, or `some a`; in a `do` block what
-- follows goes on only where the line before found something. `cond test a b` is a where the test holds and b where it doesn't; `ltb`, `leb`, `eqb`
-- test for less, at most, equal. `pos n` is the number n, `negsuc n` is -(n + 1). In the claims: `×` and, `↔` exactly when, `¬` not,
-- `List-as-Memᴰ x xs` x is one of xs; a proof `refl` says that both sides compute to the same.
pub mod Lists  -- nothing of the format
pub mod Told  -- Rust's option for the definitions'
pub mod Bytes  -- numbers of one, two and four bytes
pub mod Answer  -- "Answer numbers"
pub mod Utf16  -- "What is ported": well-formed UTF-16
pub mod Scalars  -- wish 5 of document 02: the characters of UTF-16 text
pub mod Value  -- "Rows": marks; the values of "Later layout" and "Access 2000 layout"
pub mod Digits  -- "Names and listing": hex and decimal
pub mod Texts  -- "Rows": GUID text and labels
pub mod NameTables  -- "Names and listing": the four tables
pub mod Names  -- "Names and listing": which table, and look-up
pub mod Rows  -- "Rows": widths and room
pub mod TypeInfo  -- "TypeInfo"
pub mod CodeTable  -- "Code table"
pub mod Join  -- wish 9 of document 02: two code tables joined
pub mod Tree  -- what both layouts share: entries, levels, what is reported
pub mod Access2000  -- "Access 2000 layout", to a tree
pub mod Later  -- "Later layout", to a tree or a scan
pub mod Reading  -- "Rows": a reading, and its rows
pub mod Read2000  -- "Access 2000 layout", from the tree to a reading
pub mod ReadLater  -- "Later layout", from nodes to a reading
pub mod Blob  -- "Answer numbers": a Blob's answer and rows
pub mod Totals  -- wish 4 of document 02: running totals for a whole depot
pub mod Rewrite  -- wish 13 of document 02: an Access 2000 stream in one spelling
pub mod Room  -- wish 14 of document 02: how much room is enough
pub mod NamePart  -- "Rows": the name as a part of a slice
pub mod Listing  -- "Names and listing": `formlist`
pub mod Pairing  -- wish 2 of document 02: controls paired with TypeInfo
pub mod Utf8  -- wish 7 of document 02: text as UTF-8
pub mod Csv  -- wish 7 of document 02: comma-separated text
pub mod Panel  -- wish 11 of document 02: the rules of panels
pub mod Differences  -- which properties come out otherwise under a newer code table
pub mod Dump  -- bytes as a hex dump, for the examples
pub mod Examples  -- "Proved examples"
