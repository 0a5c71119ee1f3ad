pub mod Marks
pub mod Find
pub mod Scores
