pub mod Checkpoint
pub mod Rows
pub mod Mount
