pub mod Flows
pub mod Paths
pub mod Rounds
pub mod Steps
