pub mod Seen
pub mod Collect
pub mod Versions
