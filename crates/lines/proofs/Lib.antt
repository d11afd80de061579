pub mod Numerals
pub mod Spellings
pub mod Splits
pub mod Leads
pub mod Whole
