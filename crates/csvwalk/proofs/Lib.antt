-- Laws that whoever counts a stream's records cites.
pub mod NeedLaws
pub mod Walk
