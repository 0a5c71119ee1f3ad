pub mod Entry
pub mod Claim
pub mod Flush
