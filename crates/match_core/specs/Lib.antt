pub mod Passes
pub mod Path
