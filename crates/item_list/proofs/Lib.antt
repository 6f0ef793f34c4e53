pub mod Beside
pub mod Enters
pub mod Exits
pub mod Neighbours
pub mod Pairs
pub mod Readings
pub mod Steps
pub mod Turned
