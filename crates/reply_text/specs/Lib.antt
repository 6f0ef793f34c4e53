pub mod Words
pub mod Refusals
pub mod Text
pub mod Verdicts
pub mod Shortest
pub mod Flows
pub mod Outcome
pub mod Appending
