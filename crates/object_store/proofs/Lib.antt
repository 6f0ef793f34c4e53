mod ByKind
pub mod Changes
pub mod Comings
pub mod Counts
pub mod Dropping
pub mod Edited
pub mod Entered
pub mod Entries
pub mod Finding
pub mod Found
pub mod Goes
pub mod Going
pub mod Holders
pub mod InOrder
pub mod ItemsRead
pub mod Keyed
pub mod Leads
pub mod Leaving
pub mod Listings
pub mod Lists
pub mod Looks
pub mod Makes
pub mod Names
pub mod Neighbouring
pub mod Ordered
pub mod Pairs
pub mod Passing
pub mod Places
pub mod Puts
pub mod Putting
pub mod Rows
pub mod Standing
pub mod Steps
mod Telling
mod Valued
mod ValuesListed
