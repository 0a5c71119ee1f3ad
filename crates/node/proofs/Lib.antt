pub mod Copied
pub mod Says
pub mod Searched
pub mod Shapes
