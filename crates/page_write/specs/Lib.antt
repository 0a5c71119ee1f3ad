pub mod Chunks
pub mod Laid
pub mod Pages
pub mod Parts
