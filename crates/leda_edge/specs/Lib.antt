pub mod Causes
pub mod Files
pub mod Memory
pub mod Parts
pub mod Streams
pub mod Stored
