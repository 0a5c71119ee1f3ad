pub mod Queues
pub mod Joined
