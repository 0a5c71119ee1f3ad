pub mod Session
pub mod Charges
pub mod Run
pub mod Replies
pub mod Valid
pub mod Room
pub mod Stretch
pub mod Running
