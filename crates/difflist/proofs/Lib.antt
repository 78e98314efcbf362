-- What the proofs of several functions use.
mod Words
mod Answers
mod Printing
mod Worked
