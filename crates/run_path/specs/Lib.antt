pub mod Path
pub mod Steps
pub mod Reads
pub mod Reading
pub mod Descend
pub mod Descending
