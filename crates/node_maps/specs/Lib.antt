pub mod Contents
pub mod Labels
pub mod Later
pub mod PrivateOnce
pub mod PrivateRow
pub mod PrivateTable
pub mod Refused
