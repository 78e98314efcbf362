-- What the proofs of several functions use.
pub mod RoomLaws
pub mod ExitLaws
mod AmpleLaws
