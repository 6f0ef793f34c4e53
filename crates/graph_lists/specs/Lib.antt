pub mod Heads
pub mod Named
pub mod Steps
pub mod Table
pub mod Tied
pub mod Turned
