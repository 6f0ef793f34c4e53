pub mod Contents
pub mod Index
pub mod Order
