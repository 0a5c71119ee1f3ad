pub mod Turn
pub mod TurnRun
pub mod Places
pub mod Served
pub mod Round
pub mod Rounds
