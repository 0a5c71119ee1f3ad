pub mod Replay
pub mod Slots
pub mod NodePage
pub mod Content
pub mod NodeTable
pub mod Shapes
