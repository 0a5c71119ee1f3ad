pub mod Commands
pub mod Put
