-- Laws for whoever counts entries or writes their rows.
pub mod PutLaws
pub mod GetLaws
pub mod WritingLaws
pub mod CountingLaws
pub mod LevelLaws
pub mod TakenLaws
pub mod ActLaws
pub mod RemainLaws
pub mod JudgeLaws
