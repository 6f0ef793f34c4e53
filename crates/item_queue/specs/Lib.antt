pub mod Contents
pub mod Decreases
pub mod Heap
pub mod IsQueue
pub mod Listing
pub mod Order
