pub mod Store
pub mod Write
pub mod Read
pub mod Checkpoint
