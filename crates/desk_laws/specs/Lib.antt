pub mod ValidBytes
pub mod Read
pub mod JoinedLaws
pub mod QueueLaws
pub mod Gets
