pub mod Closed
pub mod Growth
pub mod Forest
pub mod Levels
