pub mod Put
pub mod FullRun
