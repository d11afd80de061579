pub mod Each
pub mod Lines
pub mod Rules
pub mod Lawful
pub mod Written
pub mod Refusals
pub mod Spelling
pub mod Words
