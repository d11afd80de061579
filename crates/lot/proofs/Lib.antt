pub mod Shown
pub mod Lawful
pub mod FourPlaces
pub mod MarkedCases
