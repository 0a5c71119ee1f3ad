pub mod Claims
pub mod Flush
pub mod NodePages
pub mod Starts
pub mod Entries
pub mod Requests
