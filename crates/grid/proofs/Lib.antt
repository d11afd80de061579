pub mod Bits
pub mod Places
pub mod Writes
pub mod Entries
pub mod Totals
pub mod Wipes
pub mod Blanks
pub mod Emptied
