pub mod Pairing
pub mod Reversals
