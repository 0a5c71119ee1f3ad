pub mod PoolLeft
pub mod Ending
pub mod Run
pub mod Accepted
