pub mod Fault
pub mod Lines
pub mod Spelling
pub mod Reads
pub mod Found
pub mod Fields
pub mod Words
