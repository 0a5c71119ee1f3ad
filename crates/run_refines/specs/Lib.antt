pub mod Requests
pub mod Commands
pub mod Put
