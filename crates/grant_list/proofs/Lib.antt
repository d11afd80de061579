pub mod Members
pub mod Filters
pub mod Standings
pub mod Outcomes
