pub mod Chained
pub mod Items
pub mod Kept
pub mod Reads
pub mod Sides
