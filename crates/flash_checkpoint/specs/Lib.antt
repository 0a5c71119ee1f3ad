pub mod Scores
pub mod CheckpointPages
