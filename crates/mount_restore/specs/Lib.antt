pub mod Scores
pub mod Table
pub mod Blank
pub mod Questions
