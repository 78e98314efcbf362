-- Proofs of what specs/ promises of calls; Promises has them all, and the other files what they rest on.
pub mod Promises
pub mod Always
pub mod LentBytes
pub mod JoiningCalls
pub mod CountCalls
pub mod DifferingCalls
pub mod Calls
