-- What the proofs of several functions use.
mod Numbers
mod Printing
