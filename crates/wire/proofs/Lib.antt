pub mod Records
pub mod Copying
pub mod Search
pub mod Cases
pub mod Running
pub mod Plus
pub mod Columns
