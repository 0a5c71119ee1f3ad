pub mod Front
pub mod Outline
