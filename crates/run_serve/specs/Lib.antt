pub mod Content
pub mod Write
pub mod Step
pub mod Settle
pub mod Serve
