pub mod Indexed
pub mod Maps
pub mod Ordered
pub mod Steps
pub mod Trees
pub mod Triples
