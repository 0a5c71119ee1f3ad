pub mod CheckpointPages
pub mod CheckpointPage
pub mod Closing
