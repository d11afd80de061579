pub mod Questions
pub mod Histories
pub mod Laws
pub mod Marked
pub mod Words
