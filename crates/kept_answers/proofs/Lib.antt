mod Listed
mod Shown
mod Matchings
mod Firsts
mod Paths
mod Flows
