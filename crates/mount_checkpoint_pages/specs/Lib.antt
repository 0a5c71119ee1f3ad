pub mod CheckpointPage
pub mod Extent
pub mod Totals
