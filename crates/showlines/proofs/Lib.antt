-- Laws that the functions' proofs cite, and worked examples.
mod LineLaws
mod Steps
mod ReadLaws
mod Worked
