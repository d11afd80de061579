pub mod Grants
pub mod Means
pub mod Opening
