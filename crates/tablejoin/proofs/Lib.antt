-- What the proofs of several functions use.
mod Exits
mod Printing
