pub mod MountEnds
pub mod OutcomeLaws
