-- What a caller of the list of differences sees, in the code's struct.
pub mod Exit
