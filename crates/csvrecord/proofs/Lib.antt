-- Laws that the functions' proofs cite, and those who write records or count them.
pub mod RecordLaws
