pub mod Sizes
pub mod Paths
