pub mod Scores
pub mod Writes
pub mod Switches
pub mod Work
pub mod Requests
