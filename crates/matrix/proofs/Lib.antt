pub mod Fillings
pub mod Entering
pub mod Alikes
pub mod Sums
pub mod Counts
pub mod Listing
pub mod Shown
