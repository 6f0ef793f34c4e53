pub mod Contraction
pub mod Passes
