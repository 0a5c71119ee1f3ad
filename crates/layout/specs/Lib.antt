pub mod Layout
pub mod Blocks
