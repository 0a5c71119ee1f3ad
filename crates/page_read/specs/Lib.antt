pub mod Asked
pub mod View
pub mod Payload
pub mod Blank
pub mod Steps
pub mod Value
