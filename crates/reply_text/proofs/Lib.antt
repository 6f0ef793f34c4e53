mod Labels
mod Lines
pub mod SpNames
pub mod Flows
