pub mod Arguments
pub mod Entries
pub mod Kept
pub mod Lists
pub mod Names
pub mod Numbers
pub mod Tokens
pub mod Whole
