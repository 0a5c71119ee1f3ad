pub mod Pairs
pub mod Laid
pub mod Gathered
pub mod InLeaf
pub mod Along
pub mod Gathering
pub mod Scan
