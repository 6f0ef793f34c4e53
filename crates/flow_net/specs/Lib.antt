pub mod Refusals
pub mod Residual
pub mod Search
