-- Laws of names as they are shown, of controls that found no row, and of the listing; the public ones serve the program that prints it.
mod NameLaws
mod UnpairedLaws
mod RowLaws
mod Longest
mod Paired
