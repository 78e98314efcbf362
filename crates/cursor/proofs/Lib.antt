-- Laws of walks and cursors, whatever the layout; the crates that walk a stream cite them.
pub mod WalkLaws
pub mod StackLaws
pub mod CursorLaws
pub mod LeftLaws
pub mod WorkLaws
pub mod VisitLaws
pub mod RowLaws
