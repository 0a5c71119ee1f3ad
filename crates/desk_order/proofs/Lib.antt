pub mod Weigh
pub mod Rounds
pub mod Turned
pub mod OwnOrder
pub mod Fair
