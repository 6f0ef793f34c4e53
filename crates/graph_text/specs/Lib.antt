pub mod Lines
pub mod Parts
pub mod Reading
pub mod Written
pub mod Text
pub mod Gives
