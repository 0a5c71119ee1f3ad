pub mod State
pub mod Compact
pub mod World
pub mod Allocate
pub mod Flash
