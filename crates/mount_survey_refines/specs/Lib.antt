pub mod Written
pub mod Cells
pub mod PageCells
pub mod BlockCells
pub mod Passes
