-- Laws about comma-separated text, for `claims` and for the crates whose code writes or reads it.
pub mod CsvLaws
pub mod CsvReaderLaws
pub mod CsvRowsLaws
pub mod CsvPlain
pub mod Utf8Laws
pub mod WorkedSheets
